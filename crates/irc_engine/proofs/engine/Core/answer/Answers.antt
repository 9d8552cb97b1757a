use Rattle.std.proofs.Common.{false}
use Rattle.irc_engine.proofs.RunLaws.{on_ok}
use Rattle.irc_engine.proofs.TurnLaws.{nothing_to_do}
use Rattle.irc_engine.proofs.engine.Core.answer.Goals as goal

pub returns-in-Idle-clause-done : goal.returns-in-Idle-clause-done
returns-in-Idle-clause-done g c = nothing_to_do _ _ _ _ _ _ c.in-Idle.is

pub returns-in-Readable-clause-notes : goal.returns-in-Readable-clause-notes
returns-in-Readable-clause-notes g c =
    on_ok c.read.result _ _ (λ marks q. marks q false) c.read.ensures.marks
