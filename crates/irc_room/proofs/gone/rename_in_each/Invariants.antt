use Rattle.std.proofs.Common.{◌≡◌, Some, map, take}
use Rattle.irc_names.specs.Fold.{key}
use Rattle.irc_tables.specs.RowViews.{row_entry}
use Rattle.irc_channels.specs.Channels.{renamed}
use Rattle.irc_room.specs.Indexes.{folds_of}
use Rattle.irc_room.specs.Loops.InTurn.{in_turn}
use Rattle.irc_room.proofs.gone.rename_in_each.Given as goal

abbrev pub invariant-loop-name : goal.invariant-loop-name
invariant-loop-name l =
    l.channels ≡ in_turn (λ c. Some (renamed (key l.nick) (key l.new) c))
    (folds_of (map row_entry (take l.name-index l.names))) l.initial.channels
