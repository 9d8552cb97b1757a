-- What the reader of a MODE remembers of the letters that it has read.
use Rattle.std.specs.Prelude.{◌≡◌, ℕ, ◌-◌, ◌++◌, Bool, List, [], ◌∷◌, nat_eq, count_by}
use Rattle.std.specs.List.{list_any}
use Rattle.irc_modes.specs.Limits.{max_mode_parameters}
use Rattle.irc_modes.specs.declared.mode_words.Limits.{Limits}
use Rattle.irc_modes.specs.ModeWords.{ReadLetter, is_once_with, counts}

-- how many parameters may still count, and which of the letters that count once were there
pub record Remembers (limits : Limits) (earlier : List ReadLetter) : Type 0 where
  pub room : limits.room ≡ max_mode_parameters - count_by (λ r. r.takes) earlier
  pub met : (byte : ℕ)
      → list_any (nat_eq byte) limits.met.items ≡ list_any (is_once_with byte) earlier

-- One more letter, after whatever letters were remembered: whether it counts, and that it is
-- remembered too.
pub record Judges (old : Limits) (reading : ReadLetter) (verdict : Bool)
    (new : Limits) : Type 0 where
  pub counting : (earlier : List ReadLetter) → Remembers old earlier
      → verdict ≡ counts earlier reading
  pub remembering : (earlier : List ReadLetter) → Remembers old earlier
      → Remembers new (earlier ++ reading ∷ [])
