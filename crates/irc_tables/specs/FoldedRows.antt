-- Rows in folded order of their names, seen as a table: a finite map whose keys are the folds (RFC
-- 2812 section 2.2).
use Rattle.std.specs.Prelude.{ℕ, List, map, IsTrue}
use Rattle.std.specs.Coded.{Coded, coded_ℕ, coded_list}
use Rattle.std.specs.FinMap.{from_entries, is_sorted}
use Rattle.irc_names.specs.Tables.{Table, fold_cmp}
pub use Rattle.irc_tables.specs.Loops.Places.{is_before, is_after, StandsAt, BelongsAt, IsPlaceOf}

abbrev pub coded_name : Coded (List ℕ)
coded_name = coded_list coded_ℕ

-- the table of some rows, each of which says its fold and its value
unfoldable pub table_of : {X V : Type 0} → (X → List ℕ × V) → List X → Table V
table_of entry rows = from_entries (map entry rows)

-- rows in folded order, no two of which have one fold
unfoldable pub IsInFoldedOrder : {X V : Type 0} → (X → List ℕ × V) → List X → Type 0
IsInFoldedOrder entry rows = IsTrue (is_sorted fold_cmp (map entry rows))
