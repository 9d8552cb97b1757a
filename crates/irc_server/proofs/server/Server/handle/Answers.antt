use Rattle.std.proofs.Common.{◌∙◌, ap, sym, refl}
use Rattle.irc_stage.specs.View.{View}
use Rattle.irc_server.specs.Served.{fault_of}
use Rattle.irc_server.specs.Loops.States.{view_in}
use Rattle.irc_server.proofs.WhatEventsDo.{failed_stays, kept_view, ran_out, refused, taken}
use Rattle.irc_server.proofs.server.Server.handle.Goals as goal

pub returns-in_default : goal.returns-in_default
returns-in_default c = failed_stays c.args.self.now c.args.self.now c.args.event.now
    c.args.out.now.outs (sym c.view.ensures ∙ c.in_default.is)
    (sym c.view.ensures ∙ c.in_default.is)

pub returns-in-Some-refusal : goal.returns-in-Some-refusal
returns-in-Some-refusal c = refused c.args.self.now c.args.self.now c.in-Some.view
    c.args.event.now c.args.out.now.outs c.in-Some-refusal.fault
    (sym c.view.ensures ∙ c.in-Some.is) (sym c.refusal.ensures ∙ c.in-Some-refusal.is)
    (sym c.view.ensures ∙ c.in-Some.is)

pub returns-in_err-stage : goal.returns-in_err-stage
returns-in_err-stage c = ran_out c.args.self.now _ c.in-Some.view c.args.event.now
    c.args.out.now.outs c.args.out.now.outs c.from_residual.result
    (sym c.view.ensures ∙ c.in-Some.is) (sym c.refusal.ensures ∙ c.in_default-refusal.is)
    c.from_residual.ensures.1
    (ap view_in c.taken.ensures.failed) refl

pub returns-in_err-act : goal.returns-in_err-act
returns-in_err-act c = ran_out c.args.self.now _ c.in-Some.view c.args.event.now
    c.args.out.now.outs c.args.out.now.outs c.from_residual-in_err-act.result
    (sym c.view.ensures ∙ c.in-Some.is) (sym c.refusal.ensures ∙ c.in_default-refusal.is)
    c.from_residual-in_err-act.ensures.1
    (ap view_in c.taken.ensures.failed) refl

pub returns-in_err-end : goal.returns-in_err-end
returns-in_err-end c = ran_out c.args.self.now _ c.in-Some.view c.args.event.now
    c.args.out.now.outs c.end.new.out.outs c.from_residual-in_err-end.result
    (sym c.view.ensures ∙ c.in-Some.is) (sym c.refusal.ensures ∙ c.in_default-refusal.is)
    c.from_residual-in_err-end.ensures.1
    (ap view_in c.taken.ensures.failed) c.in_err-end.ensures.refused

pub returns : goal.returns
returns c = taken c.args.self.now _ c.in_ok-stage.stage c.in_ok-end.field-0 c.args.event.now
    c.in_ok-act.field-0 c.args.out.now.outs c.end.new.out.outs
    (sym c.self.view_is ∙ c.in_ok-stage.ensures.taken)
    (ap (λ (view : View). fault_of view c.args.event.now)
    (kept_view c.args.self.now c.in-Some.view c.in_ok-stage.stage
    (sym c.view.ensures ∙ c.in-Some.is) (sym c.self.view_is ∙ c.in_ok-stage.ensures.taken))
    ∙ sym c.refusal.ensures ∙ c.in_default-refusal.is)
    c.in_ok-act.ensures c.in_ok-end.ensures.stage
    refl c.in_ok-end.ensures.appended
