use Rattle.std.proofs.Common.{◌++◌, map, length}
use Rattle.irc_line.specs.Messages.{text}
use Rattle.irc_burst_lines.specs.Loops.Telling.{lines_now, ban_lines}
use Rattle.irc_burst_lines.proofs.Told.{Completes}
use Rattle.irc_burst_lines.proofs.telling.tell_changes.Given as goal

abbrev pub invariant-loop-rest : goal.invariant-loop-rest
invariant-loop-rest l =
    Completes (lines_now l.fn.lines.items ++ map text (ban_lines l.server l.channel l.changes))
    l.lines.items (ban_lines l.server l.channel l.rest)

abbrev pub decreases-loop-rest : goal.decreases-loop-rest
decreases-loop-rest l = length l.rest
