-- What the code has at hand when it writes a reply.
use Rattle.std.specs.Prelude.{ℕ, Option, Some, None, List, [], ◌∷◌, map}
use Rattle.std.specs.Prelude.{decimal}
use Rattle.std.specs.Borrow.{Bor}
use Rattle.irc_numerics.specs.declared.pieces.Piece.{Piece}
use Rattle.irc_numerics.specs.declared.pieces.Piece.TheVariants.{Bytes, Number, Members, Places}
use Rattle.irc_numerics.specs.declared.writing.ReplyHead.{ReplyHead}
use Rattle.irc_numerics.specs.Replies.{ReplyRow, numbered, three_digits, in_a_row, spaced}
use Rattle.irc_numerics.specs.Replies.{marked_nick, on_channel, saying}

-- the bytes of a piece
abbrev pub piece_now : Piece → List ℕ
piece_now (Bytes bytes) = bytes.now
piece_now (Number number) = decimal number
piece_now (Members names) = spaced (map marked_nick names.now)
piece_now (Places channels) = spaced (map on_channel channels.now)

-- the text that pieces are
abbrev pub text_now : Option (Bor (List Piece)) → Option (List ℕ)
text_now None = None
text_now (Some pieces) = Some (in_a_row (map piece_now pieces.now))

-- a number and pieces, as a row
abbrev pub row_now : ℕ → List Piece → Option (Bor (List Piece)) → ReplyRow
row_now number words text = record {
  number = number;
  words = record { middle = map piece_now words; last = text_now text };
}

-- a number, words and a text, as a row
abbrev pub one_text : ℕ → List (List ℕ) → List ℕ → ReplyRow
one_text number words text =
    record { number = number; words = saying words (in_a_row (text ∷ [])) }

-- a row, written as a line behind that head
unfoldable pub line_behind : ReplyHead → ReplyRow → List ℕ
line_behind head row =
    numbered head.server.now head.name.now (three_digits row.number) row.words
