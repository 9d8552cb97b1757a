use Rattle.std.proofs.Common.{◌≡◌, drop, map, nat_le, string_bytes, sum_by}
use Rattle.irc_door.specs.MessagesOfTheDay.{line_room}
use Rattle.irc_door.proofs.motd.lines_fit.Given as goal

-- all lines fit if those that are left fit into what is left
abbrev pub invariant-loop-line : goal.invariant-loop-line
invariant-loop-line l = nat_le (sum_by line_room (map string_bytes l.fn.lines)) l.fn.room
    ≡ nat_le (sum_by line_room (map string_bytes (drop l.line-index l.lines))) l.left
