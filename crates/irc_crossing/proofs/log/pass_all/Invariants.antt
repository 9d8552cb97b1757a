use Rattle.irc_crossing.proofs.Passing.{IsPassing}
use Rattle.irc_crossing.proofs.log.pass_all.Given as goal

-- what passes the rest is what passes all, and what was passed is as it will be
abbrev pub invariant-loop-entry : goal.invariant-loop-entry
invariant-loop-entry l = IsPassing l.fn.theirs l.fn.entries l.entry-index l.theirs l.entries
