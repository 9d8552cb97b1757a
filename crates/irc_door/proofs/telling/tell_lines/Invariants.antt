use Rattle.std.proofs.Common.{◌≡◌, ◌++◌, drop, map, string_bytes}
use Rattle.irc_door.specs.Doors.{to_client}
use Rattle.irc_door.specs.MessagesOfTheDay.{line_told, told_of}
use Rattle.irc_door.proofs.telling.tell_lines.Given as goal

-- what is told so far, with the lines that are left, is all
abbrev pub invariant-loop-line : goal.invariant-loop-line
invariant-loop-line l = l.out.outs ++ to_client l.conn
    (map (line_told (told_of l.hearer)) (map string_bytes (drop l.line-index l.lines)))
    ≡ l.initial.out.outs ++ to_client l.conn
    (map (line_told (told_of l.hearer)) (map string_bytes l.fn.lines))
