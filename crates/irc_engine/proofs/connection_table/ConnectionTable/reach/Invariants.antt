use Rattle.std.proofs.Common.{◌+◌, ◌-◌, length}
use Rattle.irc_engine.specs.Loops.Tables.{AreSame}
use Rattle.irc_engine.specs.Moments.{connection_of}
use Rattle.irc_engine.proofs.connection_table.ConnectionTable.reach.Given as goal

-- places more are empty
abbrev pub invariant-loop-self : goal.invariant-loop-self
invariant-loop-self l = AreSame (connection_of l.initial.self) (connection_of l.self)

abbrev pub decreases-loop-self : goal.decreases-loop-self
decreases-loop-self l = l.conn + 1 - length l.self.slots.items
