use Rattle.std.proofs.Common.{◌≡◌, ◌++◌, Some}
use Rattle.irc_crossing.specs.Logs.{through}
use Rattle.irc_crossing.proofs.log.Log.would_pass.Given as goal

-- what passes the rest is what passes all
abbrev pub invariant-loop-entry : goal.invariant-loop-entry
invariant-loop-entry l =
    through l.left (l.entry-iterator.head.now ++ l.entry-iterator.wrapped.now)
    ≡ through (Some l.fn.theirs) l.self
