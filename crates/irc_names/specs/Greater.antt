-- The greater of two, by which two descriptions of one thing are joined (our own choice): texts by
-- their bytes, what is there over what is missing.
use Rattle.std.specs.Prelude.{ℕ, Option, Some, None, List, if◌then◌else◌}
use Rattle.std.specs.declared.cmp.Ordering.{Ordering}
use Rattle.std.specs.Ordering.{is_lt, nat_cmp}
use Rattle.std.specs.Cmp.Lexicographic.{slice_cmp}

-- bytes in the order of the alphabet: `Z` before `a`, and what another begins with before it
abbrev pub bytes_cmp : List ℕ → List ℕ → Ordering
bytes_cmp = slice_cmp nat_cmp

abbrev pub greater : {X : Type 0} → (X → X → Ordering) → X → X → X
greater order one other = if is_lt (order one other) then other else one

-- what is missing is less than all that is there
abbrev pub greater_of : {X : Type 0} → (X → X → Ordering) → Option X → Option X → Option X
greater_of order None other = other
greater_of order (Some one) None = Some one
greater_of order (Some one) (Some other) = Some (greater order one other)
