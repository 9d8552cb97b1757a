-- The names of a table, by its rows in the code.
use Rattle.std.proofs.Common.{◌≡◌, ℕ, Bool, ◌||◌, List, [], ◌∷◌, map, refl, ap}
use Rattle.std.specs.List.{list_any}
use Rattle.irc_names.specs.Fold.{key}
use Rattle.irc_tables.specs.declared.table.Row.{Row}
use Rattle.irc_tables.specs.RowViews.{row_entry}

-- a test of some name
pub list_any-row_name : {V : Type 0} (p : List ℕ → Bool) (rows : List (Row V)) → list_any
    (λ (row : Row V). p (key row.name.items)) rows ≡ list_any (λ e. p e.0) (map row_entry rows)
list_any-row_name p [] = refl
list_any-row_name p (row ∷ rows) = ap (λ b. p (key row.name.items) || b) (list_any-row_name p rows)
