use Rattle.std.proofs.Common.{◌∙◌, ap, sym, refl}
use Rattle.irc_server.specs.Loops.Settings.{fault_at}
use Rattle.irc_server.specs.Loops.States.{view_in}
use Rattle.irc_server.proofs.SetsDone.{all_set, memory_out, refused_at}
use Rattle.irc_server.proofs.server.Server.set.Goals as goal

pub returns-in-Some : goal.returns-in-Some
returns-in-Some c = refused_at c.args.self.now c.args.link c.args.line.now.items
    c.args.out.now.outs c.in-Some.fault
    (ap (fault_at c.args.self.now) (sym c.of-number.ensures) ∙ sym c.refusal_at.ensures
    ∙ c.in-Some.is)

pub returns-in_err-stage : goal.returns-in_err-stage
returns-in_err-stage c = memory_out c.args.self.now _ c.args.link c.args.line.now.items
    c.args.out.now.outs c.args.out.now.outs c.from_residual.result
    (ap (fault_at c.args.self.now) (sym c.of-number.ensures) ∙ sym c.refusal_at.ensures
    ∙ c.in_default.is) c.from_residual.ensures.1
    (ap view_in c.taken.ensures.failed) refl

pub returns-in_err-set_line : goal.returns-in_err-set_line
returns-in_err-set_line c = memory_out c.args.self.now _ c.args.link c.args.line.now.items
    c.args.out.now.outs c.args.out.now.outs c.from_residual-in_err-set_line.result
    (ap (fault_at c.args.self.now) (sym c.of-number.ensures) ∙ sym c.refusal_at.ensures
    ∙ c.in_default.is) c.from_residual-in_err-set_line.ensures.1
    (ap view_in c.taken.ensures.failed) refl

pub returns-in_err-end : goal.returns-in_err-end
returns-in_err-end c = memory_out c.args.self.now _ c.args.link c.args.line.now.items
    c.args.out.now.outs c.end.new.out.outs c.from_residual-in_err-end.result
    (ap (fault_at c.args.self.now) (sym c.of-number.ensures) ∙ sym c.refusal_at.ensures
    ∙ c.in_default.is) c.from_residual-in_err-end.ensures.1
    (ap view_in c.taken.ensures.failed) c.in_err-end.ensures.refused

pub returns : goal.returns
returns c = all_set c.args.self.now _ c.in_ok-stage.stage c.in_ok-end.field-0 c.args.link
    c.of-number.result c.args.line.now.items c.deref.result.now c.in_ok-set_line.field-0
    c.args.out.now.outs
    c.end.new.out.outs
    (sym c.self.view_is ∙ c.in_ok-stage.ensures.taken)
    (ap (fault_at c.args.self.now) (sym c.of-number.ensures) ∙ sym c.refusal_at.ensures
    ∙ c.in_default.is)
    c.of-number.ensures c.deref.ensures.0
    c.in_ok-set_line.ensures c.in_ok-end.ensures.stage
    refl c.in_ok-end.ensures.appended
