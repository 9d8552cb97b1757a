use Rattle.std.proofs.Common.{◌≡◌, length}
use Rattle.irc_crossing.specs.Logs.{unread}
use Rattle.irc_crossing.proofs.log.Log.count.Given as goal

abbrev pub decreases-loop-self : goal.decreases-loop-self
decreases-loop-self l = length l.self

abbrev pub invariant-loop-self : goal.invariant-loop-self
invariant-loop-self l = unread l.read l.self ≡ unread l.read l.fn.self
