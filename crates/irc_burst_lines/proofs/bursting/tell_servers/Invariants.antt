use Rattle.std.proofs.Common.{◌++◌, map, drop}
use Rattle.irc_line.specs.Messages.{text}
use Rattle.irc_burst_lines.specs.Loops.Telling.{lines_now, row_parts, rows_now}
use Rattle.irc_burst_lines.proofs.Told.{Completes}
use Rattle.irc_burst_lines.proofs.bursting.tell_servers.Given as goal

abbrev pub invariant-loop-server : goal.invariant-loop-server
invariant-loop-server l =
    Completes (lines_now l.fn.lines.items
    ++ map text (map (row_parts l.routes) (rows_now l.servers))) l.lines.items
    (map (row_parts l.routes) (rows_now (drop l.server-index l.servers)))
