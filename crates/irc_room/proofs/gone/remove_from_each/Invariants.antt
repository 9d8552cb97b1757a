use Rattle.std.proofs.Common.{◌≡◌, map, take}
use Rattle.irc_names.specs.Fold.{key}
use Rattle.irc_tables.specs.RowViews.{row_entry}
use Rattle.irc_channels.specs.Channels.{without_user}
use Rattle.irc_room.specs.Indexes.{folds_of, TellsOfOthers}
use Rattle.irc_room.specs.Loops.InTurn.{in_turn}
use Rattle.irc_room.proofs.gone.remove_from_each.Given as goal

abbrev pub invariant-loop-name : goal.invariant-loop-name
invariant-loop-name l =
    (l.channels ≡ in_turn (without_user (key l.nick))
    (folds_of (map row_entry (take l.name-index l.names))) l.initial.channels)
    × TellsOfOthers (key l.nick) l.channels l.invited.rows
