use Rattle.std.proofs.Common.{◌≡◌, false, take}
use Rattle.std.specs.List.{list_any}
use Rattle.irc_tables.specs.RowViews.{row_entry}
use Rattle.irc_forest.specs.Loops.AsTheyAre.{survives}
use Rattle.irc_forest.proofs.agreeing.some_survives.Given as goal

abbrev pub invariant-loop-member : goal.invariant-loop-member
invariant-loop-member l =
    list_any (λ row. survives l.other.room (row_entry row)) (take l.member-index l.members) ≡ false
