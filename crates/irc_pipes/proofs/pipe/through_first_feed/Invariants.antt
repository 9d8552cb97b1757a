use Rattle.std.proofs.Common.{◌≡◌, ◌+◌, drop}
use Rattle.irc_pipes.specs.Pipes.{through_line_feed}
use Rattle.irc_pipes.proofs.pipe.through_first_feed.Given as goal

-- no LF is among the bytes so far
abbrev pub invariant-loop-i : goal.invariant-loop-i
invariant-loop-i l = through_line_feed l.bytes ≡ l.i + through_line_feed (drop l.i l.bytes)
