-- The front of bytes that is so many lines, as the protocol's lines are.
use Rattle.std.specs.Prelude.{◌≡◌, ◌≤◌, ◌<◌, ℕ, Bool, true, false, ◌||◌, max, min, nat_lt, List}
use Rattle.std.specs.Prelude.{length, take, get_or}
use Rattle.irc_line.specs.Bytes.{is_line_end}
use Rattle.irc_line.specs.Lines.{lines}

-- how many lines end in so many of the first bytes
abbrev pub lines_in : List ℕ → ℕ → ℕ
lines_in bytes count = length (lines (take count bytes))

-- whether the byte at a place is of the front of so many lines, of which there is one at least:
-- fewer have ended before it, or it ends a line itself, be it an empty one
abbrev pub is_in_front : ℕ → List ℕ → ℕ → Bool
is_in_front wanted bytes place =
    nat_lt (lines_in bytes place) (max wanted 1) || is_line_end (get_or bytes place 0)

-- so many bytes are the front of so many lines: all up to the first that is none of it
pub record IsFront (wanted : ℕ) (bytes : List ℕ) (count : ℕ) : Type 0 where
  pub within : count ≤ length bytes
  pub in_front : (place : ℕ) → place < count → is_in_front wanted bytes place ≡ true
  pub behind : count < length bytes → is_in_front wanted bytes count ≡ false

-- so many bytes are what a buffer has room for of the front of so many lines
pub record GivesLines (wanted room : ℕ) (bytes : List ℕ) (count : ℕ) : Type 0 where
  pub front : ℕ
  pub is_front : IsFront wanted bytes front
  pub given : count ≡ min front room

-- so many lines have ended in just so many bytes; or fewer in all
pub record EndsLines (wanted : ℕ) (bytes : List ℕ) (count : ℕ) : Type 0 where
  pub within : count ≤ length bytes
  pub before : (place : ℕ) → place < count → lines_in bytes place < wanted
  pub ended : count < length bytes → lines_in bytes count ≡ wanted
