-- One change of the rows at some folds, made one after another.
use Rattle.std.specs.Prelude.{ℕ, Option, List, fold}
use Rattle.std.specs.Option.{option_and_then}
use Rattle.irc_names.specs.Tables.{Table, alter}

-- the row at a fold, if there is one, is changed or taken out
abbrev pub changed_at : {X : Type 0} → (X → Option X) → Table X → List ℕ → Table X
changed_at change table name = alter name (option_and_then change) table

abbrev pub in_turn : {X : Type 0} → (X → Option X) → List (List ℕ) → Table X → Table X
in_turn change names table = fold (changed_at change) table names
