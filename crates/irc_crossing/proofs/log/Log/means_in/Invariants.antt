use Rattle.std.proofs.Common.{◌≡◌, ◌++◌}
use Rattle.irc_crossing.specs.Logs.{means_in}
use Rattle.irc_crossing.proofs.log.Log.means_in.Given as goal

-- behind the rest, whoever it is now is whom all make of it
abbrev pub invariant-loop-entry : goal.invariant-loop-entry
invariant-loop-entry l =
    means_in (l.entry-iterator.head.now ++ l.entry-iterator.wrapped.now) l.channel l.now
    ≡ means_in l.self l.channel l.nick
