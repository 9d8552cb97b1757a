-- The line in front of a piece (our own choice; RFC 2813 has none):
--   COUNT 7 2          seven pieces of the other end were read; two lines are one piece
--   COUNT 7 1 set      a piece of one line, which sets what it says
--   COUNT 7 0          nothing comes but the count
--   COUNT 7 17         closes the link: no piece has more than 16 lines
--   COUNT 07 1         closes the link: a number has one way to be written
use Rattle.std.specs.Prelude.{ℕ, Bool, not, ◌&&◌, ◌||◌, is_some, nat_le, nat_lt, Option}
use Rattle.std.specs.Prelude.{Some, None, Result, Ok, Err, List, [], ◌∷◌, codes, decimal}
use Rattle.std.specs.Prelude.{if◌then◌else◌, option_and_then}
use Rattle.std.specs.Str.{bytes_eq}
use Rattle.irc_batch.specs.declared.close_reason.CloseReason.{CloseReason}
use Rattle.irc_batch.specs.declared.close_reason.CloseReason.TheVariants.{Parameters}
use Rattle.irc_decimals.specs.Numbers.{written_number}
use Rattle.irc_line.specs.Messages.{Parsed, Written, nobody}
use Rattle.irc_line.specs.Reading.{read_of}
use Rattle.irc_pieces.specs.declared.count.Count.{Count}
use Rattle.irc_pieces.specs.declared.count.Mark.{Mark}
use Rattle.irc_pieces.specs.declared.count.Mark.TheVariants.{Set}

-- ---- written

abbrev pub mark_word : Mark → List ℕ
mark_word Set = codes "set"

abbrev pub mark_words : Option Mark → List (List ℕ)
mark_words None = []
mark_words (Some mark) = mark_word mark ∷ []

abbrev pub from_nobody : List (List ℕ) → Written
from_nobody words =
    record { sender = nobody; command = codes "COUNT"; middle = words; last = None }

abbrev pub count_parts : Count → Written
count_parts count =
    from_nobody (decimal count.read ∷ decimal count.lines ∷ mark_words count.mark)

-- ---- read

abbrev pub mark_of : List ℕ → Option Mark
mark_of word = if bytes_eq word (codes "set") then Some Set else None

-- a piece has no more than 16 lines, and one that says something more has some
abbrev pub may_have : Count → Bool
may_have count = nat_le count.lines 16 && (not (is_some count.mark) || nat_lt 0 count.lines)

abbrev pub if_possible : Count → Option Count
if_possible count = if may_have count then Some count else None

abbrev pub count_in : List ℕ → List ℕ → Option Mark → Option Count
count_in read lines mark = option_and_then
    (λ many. option_and_then
    (λ few. if_possible (record { read = many; lines = few; mark = mark })) (written_number lines))
    (written_number read)

abbrev pub count_of_words : List (List ℕ) → Option Count
count_of_words (read ∷ lines ∷ []) = count_in read lines None
count_of_words (read ∷ lines ∷ word ∷ []) =
    option_and_then (λ mark. count_in read lines (Some mark)) (mark_of word)
count_of_words words = None

abbrev pub or_parameters : Option Count → Result Count CloseReason
or_parameters None = Err Parameters
or_parameters (Some count) = Ok count

-- what a line is as one in front of a piece: it is from nobody, and its command is written as here
abbrev pub count_of : Parsed → Option (Result Count CloseReason)
count_of message =
    if is_some message.prefix then None
    else (if bytes_eq message.command (codes "COUNT")
    then Some (or_parameters (count_of_words message.params)) else None)

-- a line that is no message is none of these
abbrev pub count_if : {F : Type 0} → Result Parsed F → Option (Result Count CloseReason)
count_if (Err fault) = None
count_if (Ok message) = count_of message

abbrev pub count_line : List ℕ → Option (Result Count CloseReason)
count_line line = count_if (read_of line)
