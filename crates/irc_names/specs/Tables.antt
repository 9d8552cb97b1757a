-- Tables by name: finite maps whose keys are folds. Three words make every table from others:
-- `alter` changes one row, `each` changes every row, `both` joins two tables row by row. Beside
-- them `retain_keys` of std leaves the rows at some folds alone.
use Rattle.std.specs.Prelude.{ℕ, Option, Some, None, List, [], ◌∷◌, ◌++◌}
use Rattle.std.specs.declared.cmp.Ordering.{Ordering}
use Rattle.std.specs.Ordering.{nat_cmp}
use Rattle.std.specs.Option.{option_and_then}
use Rattle.std.specs.Cmp.Lexicographic.{slice_cmp}
use Rattle.std.specs.FinMap.{FinMap, empty, get, insert, remove, keys}

-- folds in the order of their bytes
abbrev pub fold_cmp : List ℕ → List ℕ → Ordering
fold_cmp = slice_cmp nat_cmp

-- a row for each of some folds
abbrev pub Table : Type 0 → Type 0
Table X = FinMap fold_cmp X

-- the row at a fold, if there is one
abbrev pub row : {X : Type 0} → Table X → List ℕ → Option X
row = get

-- the table with this row at the fold, or with none
abbrev pub put : {X : Type 0} → Table X → List ℕ → Option X → Table X
put table fold None = remove table fold
put table fold (Some x) = insert table fold x

-- The row at one fold is made, changed or taken out; every other row stays.
unfoldable pub alter : {X : Type 0} → List ℕ → (Option X → Option X) → Table X → Table X
alter fold change table = put table fold (change (row table fold))

-- the table that has these rows at these folds
abbrev pub tabulate : {X : Type 0} → List (List ℕ) → (List ℕ → Option X) → Table X
tabulate [] rows = empty
tabulate (fold ∷ folds) rows = put (tabulate folds rows) fold (rows fold)

-- Every row is changed, or taken out.
unfoldable pub each : {X Y : Type 0} → (X → Option Y) → Table X → Table Y
each change table = tabulate (keys table) (λ fold. option_and_then change (row table fold))

-- Two tables become one, row by row.
unfoldable pub both : {X Y Z : Type 0} → (Option X → Option Y → Option Z) → Table X → Table Y
    → Table Z
both join one other =
    tabulate (keys one ++ keys other) (λ fold. join (row one fold) (row other fold))

-- a row that was taken out of a table is put at a fold, and changed; there is nothing to do where
-- there was none
abbrev pub put_row : {X : Type 0} → Option X → List ℕ → (X → X) → Table X → Table X
put_row None new change rest = rest
put_row (Some x) new change rest = alter new (λ _. Some (change x)) rest

-- The row at one fold, if there is one, is put at another, and changed.
unfoldable pub moved : {X : Type 0} → List ℕ → List ℕ → (X → X) → Table X → Table X
moved old new change table = put_row (row table old) new change (alter old (λ _. None) table)
