use Rattle.std.proofs.Common.{◌++◌, map, drop}
use Rattle.irc_line.specs.Messages.{text}
use Rattle.irc_burst_lines.specs.Loops.Telling.{change_lines, lines_now, users_now}
use Rattle.irc_burst_lines.proofs.Told.{Completes}
use Rattle.irc_burst_lines.proofs.bursting.tell_each_change.Given as goal

abbrev pub invariant-loop-user : goal.invariant-loop-user
invariant-loop-user l =
    Completes (lines_now l.fn.lines.items
    ++ map text (change_lines l.room.room l.routes l.link (users_now l.users))) l.lines.items
    (change_lines l.room.room l.routes l.link (users_now (drop l.user-index l.users)))
