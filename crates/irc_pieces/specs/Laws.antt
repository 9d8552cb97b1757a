-- What holds of pieces that are written and read.
use Rattle.std.specs.Prelude.{◌≡◌, ◌≢◌, ◌≤◌, true, Option, Some, None, Ok, List, []}
use Rattle.std.specs.Prelude.{◌∷◌, ◌++◌, length, option_map}
use Rattle.std.specs.List.{AllByRecursion}
use Rattle.irc_line.specs.Messages.{line_text}
use Rattle.irc_pieces.specs.Counting.{count_line, count_parts, may_have}
use Rattle.irc_pieces.specs.Ends.{after_line, heard_line}
use Rattle.irc_pieces.specs.Pieces.{CountedEnd, Lines, WholePiece}
use Rattle.irc_pieces.specs.Tallies.{count_for, is_possible}
use Rattle.irc_pieces.specs.declared.count.Count.{Count}
use Rattle.irc_pieces.specs.declared.count.Mark.{Mark}
use Rattle.irc_pieces.specs.declared.counts.Counts.{Counts}
use Rattle.irc_pieces.specs.declared.piece_end.Heard.{Heard}
use Rattle.irc_pieces.specs.declared.piece_end.Heard.TheVariants.{Nothing, Piece, Fault}

-- ---- what stands in front of a piece

-- a count that can be: a piece has no more than 16 lines, and numbers have 64 bits
pub record IsCount (count : Count) : Type 0 where
  pub read : count.read ≤ 18446744073709551615
  pub lines : count.lines ≤ 18446744073709551615
  pub may : may_have count ≡ true

-- it is read as what it was written from
abbrev pub CountsAreRead : Type 0
CountsAreRead =
    (count : Count) → IsCount count → count_line (line_text (count_parts count)) ≡ Some (Ok count)

-- ---- whole pieces

-- the lines that are put out for a piece, without their CR LF
abbrev pub lines_of_count : Option Count → Lines
lines_of_count None = []
lines_of_count (Some count) = line_text (count_parts count) ∷ []

abbrev pub put_out_lines : Counts → Lines → Option Mark → Lines
put_out_lines counts lines mark = lines_of_count (count_for (length lines) mark counts) ++ lines

-- what an end hears of some lines, one after another, and what it is then
abbrev pub all_heard : Lines → CountedEnd → List Heard
all_heard [] end = []
all_heard (line ∷ lines) end = heard_line line end ∷ all_heard lines (after_line line end)

abbrev pub after_all : Lines → CountedEnd → CountedEnd
after_all [] end = end
after_all (line ∷ lines) end = after_all lines (after_line line end)

-- the pieces among what is heard; none, where something closes the link
abbrev pub pieces_in : List Heard → Option (List WholePiece)
pieces_in [] = Some []
pieces_in (Nothing ∷ more) = pieces_in more
pieces_in (Piece piece ∷ more) = option_map (λ pieces. piece ∷ pieces) (pieces_in more)
pieces_in (Fault reason ∷ more) = None

-- no piece has begun to come
pub record IsBetween (end : CountedEnd) : Type 0 where
  pub left : end.left ≡ 0
  pub mark : end.mark ≡ None
  pub lines : end.lines ≡ []
  pub bytes : end.bytes ≡ 0

-- lines that may go as one piece
pub record MayBePiece (lines : Lines) : Type 0 where
  pub some : lines ≢ []
  pub few : length lines ≤ 16
  pub texts : AllByRecursion (λ line. count_line line ≡ None) lines

-- What one end puts out as a piece, the other end, to which it may say that it has read as many
-- pieces as it has, hears as that piece and as nothing else, and is between two pieces then.
pub record IsHeardWhole (writer reader : CountedEnd) (lines : Lines) (mark : Option Mark)
    : Type 0 where
  pub heard : pieces_in (all_heard (put_out_lines writer.counts lines mark) reader)
      ≡ Some (record { lines = lines; mark = mark } ∷ [])
  pub between : IsBetween (after_all (put_out_lines writer.counts lines mark) reader)

abbrev pub PiecesComeWhole : Type 0
PiecesComeWhole =
    (writer reader : CountedEnd) (lines : Lines) (mark : Option Mark) → MayBePiece lines
    → IsBetween reader → writer.counts.read ≤ 18446744073709551615
    → is_possible reader.counts writer.counts.read ≡ true
    → IsHeardWhole writer reader lines mark
