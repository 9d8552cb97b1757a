use Rattle.std.proofs.Common.{◌≡◌, true, take}
use Rattle.std.specs.List.{list_all}
use Rattle.irc_tables.specs.RowViews.{row_entry}
use Rattle.irc_forest.specs.Loops.AsTheyAre.{agrees_on}
use Rattle.irc_forest.proofs.agreeing.agree_on_all.Given as goal

abbrev pub invariant-loop-row : goal.invariant-loop-row
invariant-loop-row l = list_all (λ row. agrees_on l.one.room l.other.room (row_entry row))
    (take l.row-index l.channels) ≡ true
