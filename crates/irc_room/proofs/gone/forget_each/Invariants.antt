use Rattle.std.proofs.Common.{map, take}
use Rattle.irc_names.specs.Fold.{key}
use Rattle.irc_tables.specs.RowViews.{row_entry}
use Rattle.irc_room.specs.Indexes.{folds_of, is_named, DropsWhere}
use Rattle.irc_room.proofs.gone.forget_each.Given as goal

abbrev pub invariant-loop-nick : goal.invariant-loop-nick
invariant-loop-nick l = DropsWhere (is_named (folds_of (map row_entry (take l.nick-index l.nicks))))
    l.initial.invited.rows l.invited.rows (key l.name)
