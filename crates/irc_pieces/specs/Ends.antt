-- One end of a link on which lines go in pieces, and what each line that comes completes. Where two
-- pieces were put out, of which the other end said to have read one:
--   :al PRIVMSG #c :x      a piece of this line
--   COUNT 2 2              nothing yet: both were read, and a piece of two lines begins
--   :bo QUIT :x            nothing yet
--   :b.net KILL cy :x      a piece of these two lines
--   COUNT 2 0              nothing: a count alone
--   COUNT 3 1              closes the link: more than was put out; as COUNT 1 1 does, since 2 were
-- A count between the lines of a piece closes it as well.
use Rattle.std.specs.Prelude.{ℕ, zero, suc, Bool, ◌&&◌, nat_eq, Option, Some}
use Rattle.std.specs.Prelude.{None, Result, Ok, Err, List, [], ◌∷◌, ◌++◌, length, if◌then◌else◌}
use Rattle.irc_batch.specs.declared.close_reason.CloseReason.{CloseReason}
use Rattle.irc_batch.specs.declared.close_reason.CloseReason.TheVariants.{Parameters}
use Rattle.irc_pieces.specs.Pieces.{CountedEnd}
use Rattle.irc_pieces.specs.Counting.{count_line}
use Rattle.irc_pieces.specs.Tallies.{all_told, and_more, is_due, is_possible, none_counted}
use Rattle.irc_pieces.specs.Tallies.{one_read, put_one_out}
use Rattle.irc_pieces.specs.declared.piece_end.Heard.{Heard}
use Rattle.irc_pieces.specs.declared.piece_end.Heard.TheVariants.{Nothing, Piece, Fault}
use Rattle.irc_pieces.specs.declared.count.Count.{Count}

abbrev pub nothing_begun : CountedEnd
nothing_begun =
    record { counts = none_counted; left = 0; mark = None; lines = []; bytes = 0 }

-- ---- a line of a piece

-- one line more has come, which leaves so many to come
abbrev pub with_line : ℕ → List ℕ → CountedEnd → CountedEnd
with_line left line end = record end {
  left = left;
  lines = end.lines ++ line ∷ [];
  bytes = and_more end.bytes (length line);
}

-- the piece is whole, and is read
abbrev pub ended : CountedEnd → CountedEnd
ended end = record {
  counts = one_read end.bytes end.counts;
  left = 0;
  mark = None;
  lines = [];
  bytes = 0;
}

abbrev pub whole : CountedEnd → Heard
whole end = Piece (record { lines = end.lines; mark = end.mark })

-- a line where none is to come is a piece, as the last one that is
abbrev pub heard_text : ℕ → List ℕ → CountedEnd → Heard
heard_text zero line end = whole (with_line 0 line end)
heard_text (suc zero) line end = whole (with_line 0 line end)
heard_text (suc (suc more)) line end = Nothing

abbrev pub after_text : ℕ → List ℕ → CountedEnd → CountedEnd
after_text zero line end = ended (with_line 0 line end)
after_text (suc zero) line end = ended (with_line 0 line end)
after_text (suc (suc more)) line end = with_line (suc more) line end

-- ---- what stands in front of one

abbrev pub begun : Count → CountedEnd → CountedEnd
begun count end = record end {
  counts = record end.counts { taken = count.read };
  left = count.lines;
  mark = count.mark;
}

abbrev pub may_begin : Count → CountedEnd → Bool
may_begin count end = nat_eq end.left 0 && is_possible end.counts count.read

abbrev pub heard_count : Result Count CloseReason → CountedEnd → Heard
heard_count (Err reason) end = Fault reason
heard_count (Ok count) end = if may_begin count end then Nothing else Fault Parameters

abbrev pub after_count : Result Count CloseReason → CountedEnd → CountedEnd
after_count (Err reason) end = end
after_count (Ok count) end = if may_begin count end then begun count end else end

-- ---- any line

abbrev pub heard_as : Option (Result Count CloseReason) → List ℕ → CountedEnd → Heard
heard_as None line end = heard_text end.left line end
heard_as (Some count) line end = heard_count count end

abbrev pub after_as : Option (Result Count CloseReason) → List ℕ → CountedEnd → CountedEnd
after_as None line end = after_text end.left line end
after_as (Some count) line end = after_count count end

abbrev pub heard_line : List ℕ → CountedEnd → Heard
heard_line line end = heard_as (count_line line) line end

abbrev pub after_line : List ℕ → CountedEnd → CountedEnd
after_line line end = after_as (count_line line) line end

-- ---- what is put out

abbrev pub has_put_out : CountedEnd → CountedEnd
has_put_out end = record end { counts = put_one_out end.counts }

abbrev pub has_told : CountedEnd → CountedEnd
has_told end =
    record end { counts = if is_due end.counts then all_told end.counts else end.counts }
