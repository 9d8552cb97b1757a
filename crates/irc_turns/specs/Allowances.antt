-- How many lines a client may say by time.
use Rattle.std.specs.Prelude.{◌≡◌, ◌≤◌, ℕ, Bool, false, not, ◌&&◌, ◌+◌, ◌-◌, ◌*◌, ◌/◌, min, max}
use Rattle.std.specs.Prelude.{if◌then◌else◌, Option, Some, None, List, [], ◌∷◌, ◌++◌, length, take}
use Rattle.std.specs.List.{fold}
use Rattle.irc_line.specs.Bytes.{is_line_end, has_nul}
use Rattle.irc_turns.specs.Fronts.{IsFront}
use Rattle.irc_line.specs.Lines.{lines}
use Rattle.irc_turns.specs.Rounds.{at_most_word}
use Rattle.irc_turns.specs.declared.allowance.Allowance.{Allowance}
use Rattle.irc_turns.specs.declared.allowance.LinesPace.{LinesPace}

-- the most that one may say at once, in thousandths of a line: one line at least
abbrev pub most_of : LinesPace → ℕ
most_of pace = max pace.burst 1 * 1000

-- what one gains in so many milliseconds: each has as many thousandths of a line as a second has
-- lines, and one at least
abbrev pub gained : LinesPace → ℕ → ℕ
gained pace milliseconds = at_most_word (milliseconds * max pace.per_second 1)

-- at first it is the most; nobody looks at it where there is no pace
abbrev pub first_of : Option LinesPace → ℕ
first_of None = 0
first_of (Some pace) = most_of pace

abbrev pub allowance_of : Option LinesPace → ℕ → Allowance
allowance_of pace now =
    record { thousandths = first_of pace; counted_at = now; is_begun = false }

-- what it is at a moment: what was left and was gained since, and never more than the most
abbrev pub thousandths_at : LinesPace → ℕ → Allowance → ℕ
thousandths_at pace now allowance =
    min (at_most_word (allowance.thousandths + gained pace (now - allowance.counted_at)))
    (most_of pace)

-- how many whole lines that is
abbrev pub lines_at : LinesPace → ℕ → Allowance → ℕ
lines_at pace now allowance = thousandths_at pace now allowance / 1000

-- what was gained by a moment is taken in: each thousandth
abbrev pub counted : LinesPace → ℕ → Allowance → Allowance
counted pace now allowance =
    record allowance { thousandths = thousandths_at pace now allowance; counted_at = now }

-- a line begins with a byte that ends none, if none has begun
abbrev pub begins_line : Allowance → ℕ → Bool
begins_line allowance byte = not (is_line_end byte) && not allowance.is_begun

-- A byte is said. A line is counted as it begins, so that it counts once, in however many pieces it
-- comes; what is left does not go below nothing.
abbrev pub said_byte : Allowance → ℕ → Allowance
said_byte allowance byte = record allowance {
  thousandths =
      if begins_line allowance byte then allowance.thousandths - 1000 else allowance.thousandths;
  is_begun = not (is_line_end byte);
}

-- bytes are said, one behind the other
abbrev pub said : List ℕ → Allowance → Allowance
said bytes allowance = fold said_byte allowance bytes

-- these bytes are said at a moment
abbrev pub spent : LinesPace → ℕ → List ℕ → Allowance → Allowance
spent pace now bytes allowance = said bytes (counted pace now allowance)

-- ---- what that counts

-- how many lines begin in bytes, where one has begun before, or none has
abbrev pub begun_in : Bool → List ℕ → ℕ
begun_in is_begun [] = 0
begun_in is_begun (byte ∷ bytes) =
    (if not (is_line_end byte) && not is_begun then 1 else 0)
    + begun_in (not (is_line_end byte)) bytes

-- each line that begins in bytes takes one line
abbrev pub LinesAreCounted : Type 0
LinesAreCounted = (bytes : List ℕ) (allowance : Allowance) → (said bytes allowance).thousandths
    ≡ allowance.thousandths - begun_in allowance.is_begun bytes * 1000

-- the same comes of bytes in two pieces, wherever they are cut
abbrev pub SaidInPieces : Type 0
SaidInPieces = (first second : List ℕ) (allowance : Allowance) → said (first ++ second) allowance
    ≡ said second (said first allowance)

-- of any stream no more lines come, as the protocol has them, than begin in it
abbrev pub NoneEndsUnbegun : Type 0
NoneEndsUnbegun = (stream : List ℕ) → length (lines stream) ≤ begun_in false stream

-- bytes are said at a moment, in which no more lines begin than may by then
pub record SaysWithin (pace : LinesPace) (begun all now : ℕ) (bytes : List ℕ)
    (before last : Allowance) : Type 0 where
  pub later : before.counted_at ≤ now
  pub within : begun_in before.is_begun bytes ≤ lines_at pace now before
  pub left : last ≡ spent pace now bytes before
  pub all_are : all ≡ begun + begun_in before.is_begun bytes

-- what was said by and by, with how many lines have begun in it by now
pub data HasSaid (pace : LinesPace) (first : Allowance) : ℕ → Allowance → Type 0 where
  come : HasSaid pace first 0 first
  once_more : (begun all now : ℕ) (bytes : List ℕ) (before last : Allowance)
      → HasSaid pace first begun before → SaysWithin pace begun all now bytes before last
      → HasSaid pace first all last

-- who has begun no more lines each time than it might has begun no more in all than the burst, and
-- what the milliseconds since it came have given
abbrev pub PaceIsKept : Type 0
PaceIsKept = (pace : LinesPace) (came begun : ℕ) (last : Allowance)
    → HasSaid pace (allowance_of (Some pace) came) begun last
    → begun * 1000 ≤ most_of pace + (last.counted_at - came) * max pace.per_second 1

-- of the front of so many lines no more begin, or one, where no NUL is in it: what has one is no
-- line, and counts nonetheless
abbrev pub FrontBegins : Type 0
FrontBegins = (wanted : ℕ) (bytes : List ℕ) (count : ℕ) (is_begun : Bool) → has_nul bytes ≡ false
    → IsFront wanted bytes count → begun_in is_begun (take count bytes) ≤ max wanted 1
