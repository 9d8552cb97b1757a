use Rattle.std.proofs.Common.{◌≡◌, map, take}
use Rattle.std.specs.List.{filter_map}
use Rattle.irc_tables.specs.RowViews.{row_entry}
use Rattle.irc_burst_lines.specs.BurstLines.{is_near}
use Rattle.irc_burst_lines.specs.Loops.Telling.{near_member, told_members}
use Rattle.irc_burst_lines.proofs.bursting.near_members.Given as goal

abbrev pub invariant-loop-row : goal.invariant-loop-row
invariant-loop-row l =
    told_members l.members.items ≡ filter_map (near_member
    (is_near l.routes l.link) l.room.room.users) (map row_entry (take l.row-index l.rows))
