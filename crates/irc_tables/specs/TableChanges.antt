-- What becomes of the row of one name, by each change that the code makes of it.
use Rattle.std.specs.Prelude.{ℕ, Bool, false, Option, Some, None, List}
use Rattle.std.specs.Option.{option_map, option_map_or, option_and_then}
use Rattle.irc_names.specs.Fold.{key}
use Rattle.irc_names.specs.Tables.{Table, row, alter}

-- a value is put there, in place of what stands there
abbrev pub with_value : {X : Type 0} → List ℕ → X → Table X → Table X
with_value name value table = alter (key name) (λ _. Some value) table

-- it is taken out
abbrev pub without : {X : Type 0} → List ℕ → Table X → Table X
without name table = alter (key name) (λ _. None) table

-- what stands there is changed, or taken out
abbrev pub changed_at : {X : Type 0} → List ℕ → (X → Option X) → Table X → Table X
changed_at name change table = alter (key name) (option_and_then change) table

-- what stands there is changed
abbrev pub tried_at : {X : Type 0} → List ℕ → (X → X) → Table X → Table X
tried_at name change table = alter (key name) (option_map change) table

-- whether something stands there, and passes a test
abbrev pub passes_at : {X : Type 0} → List ℕ → (X → Bool) → Table X → Bool
passes_at name test table = option_map_or test (row table (key name)) false

-- what stands there beside the fold of the name, if anything does
abbrev pub entry_at : {X : Type 0} → List ℕ → Table X → Option (List ℕ × X)
entry_at name table = option_map (λ value. (key name, value)) (row table (key name))
