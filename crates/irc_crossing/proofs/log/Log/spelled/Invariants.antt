use Rattle.std.proofs.Common.{◌≡◌, ◌++◌}
use Rattle.irc_crossing.specs.Hearing.{spelled_in}
use Rattle.irc_crossing.proofs.log.Log.spelled.Given as goal

-- the greatest so far, and of the rest, is that of all
abbrev pub invariant-loop-entry : goal.invariant-loop-entry
invariant-loop-entry l =
    spelled_in (l.entry-iterator.head.now ++ l.entry-iterator.wrapped.now) l.greatest
    ≡ spelled_in l.self l.fn.channel
