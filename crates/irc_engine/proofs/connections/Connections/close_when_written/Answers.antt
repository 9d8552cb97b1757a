use Rattle.std.proofs.Common.{◌∷◌, [], refl, sym, ◌∙◌, arith}
use Rattle.irc_batch.specs.Batches.{end_of}
use Rattle.irc_engine.proofs.ConnectionSteps.{carries_close, ends_done, carries_on}
use Rattle.irc_engine.proofs.MarkLaws.{marks_ended, marks_closed, closed_others}
use Rattle.irc_engine.proofs.connections.Connections.close_when_written.Goals as goal

pub returns-then-is_done-clause-carries : goal.returns-then-is_done-clause-carries
returns-then-is_done-clause-carries g c =
    carries_on _ _ _ _ [] [] (end_of c.args.conn ∷ []) []
    (carries_close _ _ _ _ c.close_when_written.ensures.at c.forget_loss.ensures.forgotten refl
    (omega (arith, c.close_when_written.ensures.len, c.forget_loss.ensures.len)))
    (ends_done _ _ _ _ (sym c.is_done.ensures ∙ c.if-is_done.true) c.end.ensures)

pub returns-then-is_done-clause-marks : goal.returns-then-is_done-clause-marks
returns-then-is_done-clause-marks g c =
    marks_ended _ c.args.self.now c.end.new.self (record c.args.self.now
    { table = c.close_when_written.new.self; lost = c.forget_loss.new.lost })
    (closed_others _ c.args.self.now
    (record c.args.self.now {
      table = c.close_when_written.new.self;
      lost = c.forget_loss.new.lost;
    }) c.close_when_written.ensures.at) (λ q. refl)
    c.end.ensures.table c.end.ensures.waiting

pub returns-else-is_done-clause-carries : goal.returns-else-is_done-clause-carries
returns-else-is_done-clause-carries g c = carries_close _ _ _ _ c.close_when_written.ensures.at
    c.forget_loss.ensures.forgotten refl (omega
    (arith, c.close_when_written.ensures.len, c.forget_loss.ensures.len))

pub returns-else-is_done-clause-marks : goal.returns-else-is_done-clause-marks
returns-else-is_done-clause-marks g c =
    marks_closed _ c.args.self.now (record c.args.self.now {
      table = c.close_when_written.new.self;
      lost = c.forget_loss.new.lost;
    }) c.close_when_written.ensures.at (λ q. refl)
    (sym c.is_done.ensures ∙ c.if-is_done.false)
