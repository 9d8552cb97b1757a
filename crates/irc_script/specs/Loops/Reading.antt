-- What reading a script to its end comes to.
use Rattle.std.specs.Prelude.{ℕ, ◌≤◌, Bool, true, false, Option, List, length, take}
use Rattle.std.specs.Io.KnownBytes.{Consumes}
use Rattle.irc_script.specs.Limits.{max_reads}
use Rattle.irc_script.specs.Runs.{IsTextOf}

-- one read gave so many bytes, the first of these
abbrev pub Draws : {R : Type 0} → (R → Option (List ℕ)) → ℕ → List ℕ → R → R → Type 0
Draws remaining count bytes old new = Consumes (remaining old) (remaining new) (take count bytes)

-- So many reads were made, and none found the end: this is what they gave, and each gave something.
pub record HasGiven (reads : ℕ) (text : List ℕ) (old new : Option (List ℕ)) : Type 0 where
  pub gave : Consumes old new text
  pub some : reads ≤ length text

-- The end was found, and the text is all that the reader had; or it was not, and as many reads as
-- there may be each gave something.
abbrev pub IsReadTo : Bool → List ℕ → Option (List ℕ) → Type 0
IsReadTo true text remaining = IsTextOf text remaining
IsReadTo false text remaining = max_reads ≤ length text
