use Rattle.std.proofs.Common.{◌++◌, map, drop}
use Rattle.std.specs.List.{flat_map}
use Rattle.irc_tables.specs.declared.table.Row.{Row}
use Rattle.irc_channels.specs.declared.channel.Channel.{Channel}
use Rattle.irc_line.specs.Messages.{text}
use Rattle.irc_burst_lines.specs.Loops.Telling.{lines_now, channel_told}
use Rattle.irc_burst_lines.proofs.Told.{Completes}
use Rattle.irc_burst_lines.proofs.bursting.tell_each_channel.Given as goal

abbrev pub invariant-loop-row : goal.invariant-loop-row
invariant-loop-row l =
    Completes
    (lines_now l.fn.lines.items ++ map text (flat_map (λ (r : Row Channel).
    channel_told l.routes l.link l.room.room.users r.value) l.channels)) l.lines.items
    (flat_map (λ (r : Row Channel). channel_told l.routes l.link l.room.room.users r.value)
    (drop l.row-index l.channels))
