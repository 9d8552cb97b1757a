use Rattle.std.proofs.Common.{Ok, refl, ◌∙◌, ap, arith}
use Rattle.irc_engine.proofs.RunLaws.{on_ok}
use Rattle.irc_engine.proofs.TableLaws.{queued_first, queued_more}
use Rattle.irc_engine.proofs.ConnectionSteps.{line_taken, line_passed, line_lost}
use Rattle.irc_engine.proofs.MarkLaws.{marks_first, marks_more, marks_passed, marks_ended}
use Rattle.irc_engine.proofs.MarkLaws.{others_refused}
use Rattle.irc_engine.proofs.connections.Connections.send.Goals as goal

pub returns-in-Ok-First-clause-carries : goal.returns-in-Ok-First-clause-carries
returns-in-Ok-First-clause-carries g c =
    on_ok c.note.result _ _
    (λ noted. line_taken _ _ _ _ _ refl refl (omega (arith, c.in_ok-push.ensures.len))
    (queued_first _ _ _ _ c.in_ok-push.field-0 (c.in-Ok-First.is
    ∙ ap Ok c.in-Ok-First.field-0-is) c.in_ok-push.ensures.at)) c.note.ensures

pub returns-in-Ok-First-clause-marks : goal.returns-in-Ok-First-clause-marks
returns-in-Ok-First-clause-marks g c =
    on_ok c.note.result _ _ (λ noted. marks_first _ c.args.self.now
    (record c.args.self.now { table = c.push.new.self; waiting = c.note.new.numbers }) _
    c.in_ok-push.field-0
    (c.in-Ok-First.is ∙ ap Ok c.in-Ok-First.field-0-is) c.in_ok-push.ensures.at noted)
    c.note.ensures

pub returns-in-Ok-More-clause-carries : goal.returns-in-Ok-More-clause-carries
returns-in-Ok-More-clause-carries g c =
    line_taken _ _ _ _ _ refl refl (omega (arith, c.in_ok-push.ensures.len))
    (queued_more _ _ _ _ c.in_ok-push.field-0 (c.in-Ok-More.is
    ∙ ap Ok c.in-Ok-More.field-0-is) c.in_ok-push.ensures.at)

pub returns-in-Ok-More-clause-marks : goal.returns-in-Ok-More-clause-marks
returns-in-Ok-More-clause-marks g c =
    marks_more _ c.args.self.now (record c.args.self.now { table = c.push.new.self }) _
    c.in_ok-push.field-0 (c.in-Ok-More.is ∙ ap Ok c.in-Ok-More.field-0-is)
    c.in_ok-push.ensures.at (λ q. refl)

pub returns-in-Ok-Nothing-clause-carries : goal.returns-in-Ok-Nothing-clause-carries
returns-in-Ok-Nothing-clause-carries g c =
    line_passed _ _ _ _ _ refl refl (omega (arith, c.in_ok-push.ensures.len)) c.in_ok-push.field-0
    (c.in-Ok-Nothing.is ∙ ap Ok c.in-Ok-Nothing.field-0-is)
    c.in_ok-push.ensures.at

pub returns-in-Ok-Nothing-clause-marks : goal.returns-in-Ok-Nothing-clause-marks
returns-in-Ok-Nothing-clause-marks g c =
    marks_passed _ c.args.self.now (record c.args.self.now { table = c.push.new.self }) _
    c.in_ok-push.field-0 (c.in-Ok-Nothing.is ∙ ap Ok c.in-Ok-Nothing.field-0-is)
    c.in_ok-push.ensures.at (λ q. refl)

pub returns-in-Err-clause-carries : goal.returns-in-Err-clause-carries
returns-in-Err-clause-carries g c =
    on_ok c.lose.result _ _ (λ loses. line_lost _ _ _ _ _ loses refl
    (omega (arith, c.in_ok-push.ensures.len)) _ _ c.in_ok-push.field-0 c.in-Err.is
    c.in_ok-push.ensures.at refl) c.lose.ensures

pub returns-in-Err-clause-marks : goal.returns-in-Err-clause-marks
returns-in-Err-clause-marks g c =
    on_ok c.lose.result _ _ (λ loses. marks_ended _ c.args.self.now c.lose.new.self
    (record c.args.self.now { table = c.push.new.self })
    (λ q two. others_refused _ c.args.self.now (record c.args.self.now { table = c.push.new.self })
    _ _ c.in_ok-push.field-0 c.in-Err.is c.in_ok-push.ensures.at q)
    (λ q. refl)
    loses.table loses.waiting) c.lose.ensures
