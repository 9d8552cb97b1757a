use Rattle.std.proofs.Common.{length}
use Rattle.ircd.proofs.ReadAgain.{Leads}
use Rattle.ircd.proofs.rereading.say_restarts.Given as goal

-- what is said of the keys that are left, behind what was said so far, is all
abbrev pub invariant-loop-key : goal.invariant-loop-key
invariant-loop-key g l = Leads l.fn.first l.fn.now l.rest (g.E.Write.contents l.errors)
    l.fn.keys (g.E.Write.contents l.fn.errors)

abbrev pub decreases-loop-key : goal.decreases-loop-key
decreases-loop-key g l = length l.rest
