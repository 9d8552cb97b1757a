use Rattle.std.proofs.Common.{◌≡◌, ◌++◌}
use Rattle.irc_crossing.specs.Logs.{means}
use Rattle.irc_crossing.proofs.log.Log.means.Given as goal

-- behind the rest, whoever it is now is whom all make of it
abbrev pub invariant-loop-entry : goal.invariant-loop-entry
invariant-loop-entry l =
    means (l.entry-iterator.head.now ++ l.entry-iterator.wrapped.now) l.now ≡ means l.self l.nick
