-- What the code's lines are as lists of bytes.
use Rattle.std.specs.Prelude.{ℕ, Option, Some, None, List, [], ◌∷◌, map}
use Rattle.arrayvec.specs.ArrayVec.{ArrayVec}

abbrev pub bytes_of : List (ArrayVec ℕ) → List (List ℕ)
bytes_of = map (λ line. line.items)

-- the line that was found, if one was
abbrev pub found_in : Option (ArrayVec ℕ) → List (List ℕ)
found_in None = []
found_in (Some line) = line.items ∷ []
