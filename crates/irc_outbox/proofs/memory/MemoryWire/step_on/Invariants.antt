use Rattle.std.proofs.Common.{◌-◌, vec_len}
use Rattle.irc_outbox.specs.Loops.Passing.{HasPassed}
use Rattle.irc_outbox.proofs.memory.MemoryWire.step_on.Given as goal

abbrev pub invariant-loop-self : goal.invariant-loop-self
invariant-loop-self l = HasPassed l.fn.self l.self

abbrev pub decreases-loop-self : goal.decreases-loop-self
decreases-loop-self l = vec_len l.self.steps - l.self.at
