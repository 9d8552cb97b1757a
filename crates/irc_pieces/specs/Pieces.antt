-- Lines of a link that go as one.
use Rattle.std.specs.Prelude.{ℕ, Option, List, map}
use Rattle.arrayvec.specs.ArrayVec.{ArrayVec}
use Rattle.irc_pieces.specs.declared.count.Mark.{Mark}
use Rattle.irc_pieces.specs.declared.counts.Counts.{Counts}

-- the lines, each without its CR LF
abbrev pub Lines : Type 0
Lines = List (List ℕ)

abbrev pub lines_of : List (ArrayVec ℕ) → Lines
lines_of lines = map (λ (line : ArrayVec ℕ). line.items) lines

-- a whole piece, and what it says beside its lines
pub record WholePiece : Type 0 where
  pub lines : Lines
  pub mark : Option Mark

-- One end of a link: how many pieces there were, and what has come of one, with how many lines that
-- are still to come.
pub record CountedEnd : Type 0 where
  pub counts : Counts
  pub left : ℕ
  pub mark : Option Mark
  pub lines : Lines
  pub bytes : ℕ
