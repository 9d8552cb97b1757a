use Rattle.std.proofs.Common.{Some, ◌∙◌, ap}
use Rattle.irc_stage.specs.EffectTold.{all_changed}
use Rattle.irc_server.specs.LinesThatSet.{setting_effects, setting_parts}
use Rattle.irc_server.proofs.DeedsDone.{told_last}
use Rattle.irc_server.proofs.setting_done.set.Goals as goal

pub returns : goal.returns
returns c =
    told_last (Some c.args.link) _ (setting_parts c.args.setting) _ _ c.tell_all.result
    (c.in_ok-change.ensures
    ∙ ap (λ effects. all_changed effects c.spell-serving.result) c.effect_of.ensures
    ∙ ap (all_changed (setting_effects c.args.setting)) c.spell-serving.ensures)
    c.setting_text-line.ensures c.tell_all.ensures
