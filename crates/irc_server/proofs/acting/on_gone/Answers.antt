use Rattle.std.proofs.Common.{None, ap, ◌∙◌, subst, sym}
use Rattle.irc_room.specs.Lemmas.Rows.{found_also}
use Rattle.irc_room.specs.effect.Effect.TheVariants.{Quit}
use Rattle.irc_stage.specs.ClientTold.{quit_told, unseated}
use Rattle.irc_stage.specs.EffectTold.{Served, effect_told, in_silence}
use Rattle.irc_stage.specs.View.{machine_of}
use Rattle.irc_stage.specs.Loops.Handling.{unseated_in}
use Rattle.irc_stage.specs.Loops.Parts.{IsFit}
use Rattle.irc_stage.specs.Lemmas.MatchedEvents.{gone_fit}
use Rattle.irc_server.proofs.WhatEventsDo.{lost_is_whole}
use Rattle.irc_server.proofs.acting.on_gone.Goals as goal

pub returns-in_default : goal.returns-in_default
returns-in_default c =
    c.take_out-handling.ensures
    ∙ ap (unseated_in c.args.conn) (c.handling.ensures ∙ c.begin.ensures)
    ∙ ap (λ u. quit_told u (in_silence (unseated c.args.conn c.args.stage)))
    (sym c.in_default.is ∙ c.user_on-user.ensures)

pub apply-requires-clause-fit : goal.apply-requires-clause-fit
apply-requires-clause-fit c =
    subst (λ (s : Served). IsFit (machine_of s.state) (Quit c.in-Some.nick c.cut-text.result))
    (sym (c.take_out-handling.ensures
    ∙ ap (unseated_in c.args.conn) (c.handling.ensures ∙ c.begin.ensures)))
    (gone_fit (machine_of c.args.stage) c.args.conn c.in-Some.nick c.cut-text.result
    c.know_serving.ensures.matched c.know_serving.ensures.well_formed
    (sym c.user_on-user.ensures ∙ c.in-Some.is))

pub returns : goal.returns
returns c = found_also c.apply.result
    (λ done is. is
    ∙ ap (effect_told None (Quit c.in-Some.nick c.cut-text.result))
    (c.take_out-handling.ensures
    ∙ ap (unseated_in c.args.conn) (c.handling.ensures ∙ c.begin.ensures))
    ∙ ap (λ text. effect_told None (Quit c.in-Some.nick text)
    (in_silence (unseated c.args.conn c.args.stage))) (c.cut-text.ensures ∙ lost_is_whole)
    ∙ ap (λ u. quit_told u (in_silence (unseated c.args.conn c.args.stage)))
    (sym c.in-Some.is ∙ c.user_on-user.ensures))
    c.apply.ensures
