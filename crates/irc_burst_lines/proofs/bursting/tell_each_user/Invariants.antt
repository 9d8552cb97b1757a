use Rattle.std.proofs.Common.{◌++◌, map, filter, drop}
use Rattle.irc_line.specs.Messages.{text}
use Rattle.irc_link_writer.specs.Written.{introduction}
use Rattle.irc_burst_lines.specs.Loops.Telling.{lines_now, is_near_user, users_now}
use Rattle.irc_burst_lines.proofs.Told.{Completes}
use Rattle.irc_burst_lines.proofs.bursting.tell_each_user.Given as goal

abbrev pub invariant-loop-user : goal.invariant-loop-user
invariant-loop-user l =
    Completes (lines_now l.fn.lines.items ++ map text (map (introduction l.routes)
    (filter (is_near_user l.routes l.link) (users_now l.users)))) l.lines.items
    (map (introduction l.routes)
    (filter (is_near_user l.routes l.link) (users_now (drop l.user-index l.users))))
