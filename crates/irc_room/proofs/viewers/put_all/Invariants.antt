use Rattle.std.proofs.Common.{take}
use Rattle.std.specs.List.{list_any}
use Rattle.irc_names.specs.Fold.{key}
use Rattle.irc_channels.specs.Channels.{has_member}
use Rattle.irc_room.specs.Indexes.{holds}
use Rattle.irc_room.specs.Loops.Viewing.{Gains}
use Rattle.irc_room.proofs.viewers.put_all.Given as goal

abbrev pub invariant-loop-row : goal.invariant-loop-row
invariant-loop-row l = Gains l.fn.names l.names (λ fold. list_any
    (λ row. holds has_member l.channels fold (key row.name.items)) (take l.row-index l.rows))
