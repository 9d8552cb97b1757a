use Rattle.std.proofs.Common.{Some, ◌∙◌, ap}
use Rattle.irc_line.specs.Messages.{text}
use Rattle.irc_burst_lines.specs.DeedLines.{njoin_parts}
use Rattle.irc_burst_lines.specs.Loops.Telling.{told_members}
use Rattle.irc_stage.specs.EffectTold.{all_changed}
use Rattle.irc_server.specs.DeedTold.{deed_told}
use Rattle.irc_server.specs.Loops.Telling.{all_come}
use Rattle.irc_server.proofs.DeedsDone.{told_last}
use Rattle.irc_server.proofs.members.bring.Goals as goal

pub returns : goal.returns
unfolding deed_told
returns c =
    let a = c.args.arrivals.now in
    told_last (Some c.args.link) _ (njoin_parts a.server a.channel (told_members a.members.items))
    _ _ c.tell_all.result
    (c.in_ok-serving.ensures
    ∙ ap (λ members. all_changed (all_come a.channel members) c.respell-serving.result)
    c.as_slice-members.ensures.value
    ∙ ap (all_changed (all_come a.channel a.members.items)) c.respell-serving.ensures)
    (c.njoin_text-line.ensures
    ∙ ap (λ members. text (njoin_parts a.server a.channel (told_members members)))
    c.as_slice-members.ensures.value)
    c.tell_all.ensures
