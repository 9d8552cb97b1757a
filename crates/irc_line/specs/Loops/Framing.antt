-- What the parts of a framer do, and what its loops are at.
use Rattle.std.specs.Prelude.{◌≡◌, ℕ, Bool, true, false, ◌||◌, Option, Some, None, List, [], ◌∷◌}
use Rattle.std.specs.Prelude.{◌++◌, if◌then◌else◌}
use Rattle.std.specs.Global.{Vec}
use Rattle.arrayvec.specs.ArrayVec.{ArrayVec}
use Rattle.irc_line.specs.Bytes.{has_nul, cut}
use Rattle.irc_line.specs.Lines.{is_empty, Begun, nothing_begun, Takes}
use Rattle.irc_line.specs.Framed.{bytes_of}

-- the line that a piece with this beginning is, if it ends now
abbrev pub line_begun : Begun → Option (List ℕ)
line_begun framer = if is_empty framer.kept || framer.nul_seen then None else Some framer.kept

-- a framer with this value has more bytes, none of which ends a line
abbrev pub go_on : Begun → List ℕ → Begun
go_on framer bytes =
    record { kept = cut (framer.kept ++ bytes); nul_seen = framer.nul_seen || has_nul bytes }

-- what a framer with this value keeps is a line, if it ends now
abbrev pub IsReady : Begun → Type 0
IsReady framer = line_begun framer ≡ Some framer.kept

-- The line that has begun ends: either it is one and still is kept, to be given, or it is none and
-- nothing is kept.
abbrev pub HasEnded : Begun → Bool → Begun → Type 0
HasEnded old true new = (new ≡ old) × IsReady old
HasEnded old false new = (new ≡ nothing_begun) × (line_begun old ≡ None)

-- These bytes are taken: either they end a line, which still is kept, to be given, or they end
-- none.
abbrev pub TakesRun : Begun → List ℕ → Bool → Begun → Type 0
TakesRun old bytes true new = Takes old bytes (new.kept ∷ []) nothing_begun × IsReady new
TakesRun old bytes false new = Takes old bytes [] new

-- The bytes take the framer from old to new, and the lines from before to after.
pub record TakesInto (old : Begun) (bytes : List ℕ) (before : List (List ℕ)) (new : Begun)
    (after : List (List ℕ)) : Type 0 where
  pub found : List (List ℕ)
  pub after_is : after ≡ before ++ found
  pub takes : Takes old bytes found new

-- A whole piece takes the framer from old to new, and each line that ends in it is appended to
-- those that were found before.
abbrev pub TakesPiece : Begun → List ℕ → Vec (ArrayVec ℕ) → Begun → Vec (ArrayVec ℕ) → Type 0
TakesPiece old piece before new after =
    TakesInto old piece (bytes_of before.items) new (bytes_of after.items)
