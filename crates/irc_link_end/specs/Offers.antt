-- The words by which two ends of a link agree (our own choice), behind the options of PASS (RFC
-- 2813 section 4.1.1): `exact1`, that pieces are counted, and in front of it `away1`, that lines
-- tell who is away.
--   a.net calls, and says    PASS pw 0210010001 TREE| away1 exact1
--   b.net knows both         PASS pw 0210010001 TREE| away1 exact1   who is away is told, in pieces
--   or the second alone      PASS pw 0210010001 TREE| exact1         pieces are counted
--   or none                  PASS pw 0210010001 TREE|                lines go one by one
-- Who is called says just what it was offered. `away1` alone is no offer. The server is given the
-- line without the words, as it is in all cases.
use Rattle.std.specs.Prelude.{ℕ, Bool, true, false, ◌&&◌, ◌-◌, Option, Some, None, List, ◌++◌}
use Rattle.std.specs.Prelude.{codes, length, take, nat_eq, if◌then◌else◌}
use Rattle.std.specs.List.{starts_with, ends_with}
use Rattle.irc_line.specs.Bytes.{crlf, cut}
use Rattle.irc_link_end.specs.declared.offer.Offer.{Offer}
use Rattle.irc_link_end.specs.declared.offer.Offer.TheVariants.{Pieces, Away}

abbrev pub words : Offer → List ℕ
words Pieces = codes " exact1"
words Away = codes " away1 exact1"

-- the line with the words, and CR LF; no line is longer than others
abbrev pub with_words : Offer → List ℕ → List ℕ
with_words offer line = cut (cut line ++ words offer) ++ crlf

abbrev pub has_words : Offer → List ℕ → Bool
has_words offer line =
    starts_with nat_eq line (codes "PASS ") && ends_with nat_eq line (words offer)

-- what a line offers, if it is a PASS with words
abbrev pub offer_in : List ℕ → Option Offer
offer_in line =
    if has_words Away line then Some Away
    else (if has_words Pieces line then Some Pieces else None)

abbrev pub without_words : Offer → List ℕ → List ℕ
without_words offer line = take (length line - length (words offer)) line

-- whether it is offered to tell who is away
abbrev pub offers_away : Option Offer → Bool
offers_away (Some Away) = true
offers_away (Some Pieces) = false
offers_away None = false
