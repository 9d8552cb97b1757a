use Rattle.std.proofs.Common.{take}
use Rattle.irc_outbox.specs.Loops.Planning.{HasPlanned}
use Rattle.irc_outbox.proofs.memory.MemoryWire.new.Given as goal

abbrev pub invariant-loop-step : goal.invariant-loop-step
invariant-loop-step l = HasPlanned (take l.step-index l.step-items) l.longest l.fars
