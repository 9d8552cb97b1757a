use Rattle.std.proofs.Common.{Some, List, ◌++◌, ap, ◌∙◌, subst, sym}
use Rattle.irc_line.specs.MessageViews.{parsed}
use Rattle.irc_line.specs.PartViews.{words_now}
use Rattle.irc_names.specs.Fold.{key}
use Rattle.irc_names.specs.Tables.{row}
use Rattle.irc_room.specs.Lemmas.Rows.{found_also}
use Rattle.irc_acts.specs.declared.act.Act.{Act}
use Rattle.irc_commands.specs.Decide.{decide}
use Rattle.irc_commands.specs.Decisions.{Decided}
use Rattle.irc_stage.specs.declared.origin.Speaker.{Speaker}
use Rattle.irc_stage.specs.EffectTold.{Served, in_silence}
use Rattle.irc_stage.specs.View.{View, machine_of}
use Rattle.irc_stage.specs.Loops.Parts.{AreFitAt, IsFit}
use Rattle.irc_stage.specs.Loops.Speaking.{AreSpokenAt, IsSaidByClient}
use Rattle.irc_stage.specs.Lemmas.MatchedEvents.{decided_fit}
use Rattle.irc_stage.specs.Lemmas.Matching.{spelled_row}
use Rattle.irc_stage.specs.Lemmas.SpokenSteps.{decided_spoken}
use Rattle.irc_stage.specs.Lemmas.Twins.{fit_along, spoken_along}
use Rattle.irc_server.proofs.ToldInPart.{answered_first, carried_by, carried_in_part, decided_of}
use Rattle.irc_server.proofs.ToldInPart.{so_left}
use Rattle.irc_server.proofs.WhatEventsDo.{decided_by_name}
use Rattle.irc_server.proofs.acting.on_user_message.Goals as goal

pub carry_out-requires-clause-fit : goal.carry_out-requires-clause-fit
carry_out-requires-clause-fit c =
    let view = c.args.stage in
    let machine = machine_of view in
    let part = answered_first view _ _ c.args.nick c.args.conn c.new-speaker.result
    (parsed c.args.message.now) _ c.in_ok-decision.decision _ _
    (c.room.ensures ∙ ap (λ (v : View). v.room) c.view-view.ensures)
    (c.routes.ensures ∙ ap (λ (v : View). v.routes) c.view-view.ensures)
    c.new-speaker.ensures (ap words_now c.as_slice.ensures.value) c.in_ok-decision.ensures
    (c.handling-handling.ensures ∙ c.begin.ensures) c.in_ok-handling.ensures in
    subst (λ (s : Served). AreFitAt s.state c.deref.result.now) (sym part.new_is)
    (fit_along c.alike_stay_alike.ensures c.alike_take_alike.ensures view c.deref.result.now
    (so_left IsFit machine part.told _ part.is_only_said
    (decided_fit c.decided_is_possible.ensures c.who_stays_is_user.ensures
    c.who_is_closed_quits.ensures machine c.know_serving.ensures.matched
    c.know_serving.ensures.well_formed c.args.nick.now (parsed c.args.message.now) _
    (ap (λ (acts : List Act). part.told ++ acts) c.deref.ensures.value
    ∙ sym (ap (λ (d : Decided). d.steps) part.want_is)))))

pub carry_out-requires-clause-spoken : goal.carry_out-requires-clause-spoken
carry_out-requires-clause-spoken c =
    let view = c.args.stage in
    let machine = machine_of view in
    let message = parsed c.args.message.now in
    let part = answered_first view _ _ c.args.nick c.args.conn c.new-speaker.result
    message _ c.in_ok-decision.decision _ _
    (c.room.ensures ∙ ap (λ (v : View). v.room) c.view-view.ensures)
    (c.routes.ensures ∙ ap (λ (v : View). v.routes) c.view-view.ensures)
    c.new-speaker.ensures (ap words_now c.as_slice.ensures.value) c.in_ok-decision.ensures
    (c.handling-handling.ensures ∙ c.begin.ensures) c.in_ok-handling.ensures in
    let whole = ap (λ (acts : List Act). part.told ++ acts) c.deref.ensures.value
    ∙ sym (ap (λ (d : Decided). d.steps) part.want_is) in
    subst (λ (who : Speaker). AreSpokenAt who.conn c.in_ok-handling.handling.state
    c.deref.result.now) (sym c.new-speaker.ensures)
    (subst (λ (s : Served). AreSpokenAt c.args.conn s.state c.deref.result.now) (sym part.new_is)
    (spoken_along c.alike_stay_alike.ensures c.args.conn view c.deref.result.now
    (so_left (IsSaidByClient c.args.conn) machine part.told _ part.is_only_said
    (decided_spoken c.decided_by_itself.ensures machine c.know_serving.ensures.matched c.args.conn
    c.args.nick.now c.requires.speaks message _ whole
    (decided_fit c.decided_is_possible.ensures c.who_stays_is_user.ensures
    c.who_is_closed_quits.ensures machine c.know_serving.ensures.matched
    c.know_serving.ensures.well_formed c.args.nick.now message _ whole)))))

pub returns : goal.returns
returns c =
    let view = c.args.stage in
    let machine = machine_of view in
    let message = parsed c.args.message.now in
    let known = spelled_row machine c.know_serving.ensures.matched c.args.conn c.args.nick.now
    c.requires.speaks in
    let want = decide machine.room machine.place c.args.nick.now message in
    let part = answered_first view _ _ c.args.nick c.args.conn c.new-speaker.result
    message _ c.in_ok-decision.decision _ _
    (c.room.ensures ∙ ap (λ (v : View). v.room) c.view-view.ensures)
    (c.routes.ensures ∙ ap (λ (v : View). v.routes) c.view-view.ensures)
    c.new-speaker.ensures (ap words_now c.as_slice.ensures.value) c.in_ok-decision.ensures
    (c.handling-handling.ensures ∙ c.begin.ensures) c.in_ok-handling.ensures in
    found_also c.carry_out.result
    (λ done is. carried_in_part done c.args.conn (Some c.args.nick.now) _ c.deref.result.now want
    (decided_of c.in_ok-decision.decision) (in_silence view) c.in_ok-handling.handling
    c.deref.ensures.value known part
    (carried_by c.new-speaker.result c.args.nick c.args.conn c.deref.result.now
    c.in_ok-decision.decision.close c.in_ok-handling.handling done c.new-speaker.ensures is)
    ∙ decided_by_name view c.args.conn (row view.room.users (key c.args.nick.now))
    c.args.nick.now message known)
    c.carry_out.ensures
