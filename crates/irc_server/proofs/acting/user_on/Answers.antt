use Rattle.std.proofs.Common.{ap, ◌∙◌, sym}
use Rattle.std.specs.FinMap.{get}
use Rattle.std.specs.Option.{option_copied}
use Rattle.irc_stage.specs.Handle.{user_of}
use Rattle.irc_stage.specs.View.{View, machine_of}
use Rattle.irc_server.proofs.WhatEventsDo.{user_is}
use Rattle.irc_server.proofs.acting.user_on.Goals as goal

pub returns-in-Some : goal.returns-in-Some
returns-in-Some c =
    let machine = machine_of c.args.stage.now in
    let there = ap (λ (view : View). get view.clients c.args.conn) (sym c.view.ensures)
    ∙ sym c.client_of.ensures ∙ ap option_copied c.in-Some.is in
    c.nick_of.ensures
    ∙ sym (user_is machine c.know_serving.ensures.matched c.args.conn c.in-Some.client.now there)
    ∙ ap (user_of machine.room) (sym there)
