use Rattle.std.proofs.Common.{◌∙◌, subst, sym}
use Rattle.irc_room.specs.Lemmas.Rows.{found_also}
use Rattle.irc_stage.specs.RoomMachine.{client_of}
use Rattle.irc_stage.specs.EffectTold.{Served}
use Rattle.irc_stage.specs.declared.origin.Speaker.{Speaker}
use Rattle.irc_stage.specs.View.{machine_of}
use Rattle.irc_stage.specs.Loops.Speaking.{AreSpokenAt}
use Rattle.irc_stage.specs.Loops.Parts.{AreFitAt, IsFreeOf, IsNoUser}
use Rattle.irc_server.proofs.WhatEventsDo.{given_done, given_seat}
use Rattle.irc_server.proofs.acting.on_registration.Goals as goal

pub seat-requires-clause-no_user : goal.seat-requires-clause-no_user
seat-requires-clause-no_user c =
    subst (λ (s : Served). IsNoUser (client_of (machine_of s.state) c.args.conn))
    (sym (c.handling.ensures ∙ c.begin.ensures)) c.requires.no_user

pub seat-requires-clause-free : goal.seat-requires-clause-free
seat-requires-clause-free c =
    subst (λ (s : Served). IsFreeOf c.in_ok-client.client s.state.clients)
    (sym (c.handling.ensures ∙ c.begin.ensures))
    (subst (λ client. IsFreeOf client c.args.stage.clients) (sym c.in_ok-client.ensures)
    c.requires.free)

pub carry_out-requires-clause-fit : goal.carry_out-requires-clause-fit
carry_out-requires-clause-fit c =
    subst (AreFitAt _) (sym c.deref.ensures.value)
    (subst (λ (s : Served). AreFitAt s.state c.args.given.now.steps.items)
    (sym (given_seat c.args.stage c.args.conn c.in_ok-client.client _ c.handling.result
    c.in_ok-handling.handling c.in_ok-handling.ensures (c.handling.ensures ∙ c.begin.ensures)
    c.in_ok-client.ensures))
    c.requires.fit)

pub carry_out-requires-clause-spoken : goal.carry_out-requires-clause-spoken
carry_out-requires-clause-spoken c =
    subst (λ (speaker : Speaker). AreSpokenAt speaker.conn c.in_ok-handling.handling.state
    c.deref.result.now) (sym c.new.ensures)
    (subst (AreSpokenAt c.args.conn _) (sym c.deref.ensures.value)
    (subst (λ (s : Served). AreSpokenAt c.args.conn s.state c.args.given.now.steps.items)
    (sym (given_seat c.args.stage c.args.conn c.in_ok-client.client _ c.handling.result
    c.in_ok-handling.handling c.in_ok-handling.ensures (c.handling.ensures ∙ c.begin.ensures)
    c.in_ok-client.ensures))
    c.requires.spoken))

pub returns : goal.returns
returns c = found_also c.carry_out.result
    (λ done is. given_done c.args.stage c.args.conn c.new.result c.as_ref-nick.result
    c.args.given.now c.deref.result.now c.in_ok-handling.handling done c.new.ensures
    c.as_ref-nick.ensures.value c.deref.ensures.value
    (given_seat c.args.stage c.args.conn c.in_ok-client.client _ c.handling.result
    c.in_ok-handling.handling c.in_ok-handling.ensures (c.handling.ensures ∙ c.begin.ensures)
    c.in_ok-client.ensures) is)
    c.carry_out.ensures
