use Rattle.std.proofs.Common.{◌≡◌, map, take}
use Rattle.irc_tables.specs.RowViews.{row_entry}
use Rattle.irc_room.specs.Indexes.{entries_under}
use Rattle.irc_room.proofs.own_channels.with_names.Given as goal

abbrev pub invariant-loop-row : goal.invariant-loop-row
invariant-loop-row l = map (λ row. row_entry row.now) l.found.items ≡ entries_under l.channels
    (map row_entry (take l.row-index l.names))
