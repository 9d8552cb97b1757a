-- One end of a link: how it begins, which lines go in pieces, and whether lines tell who is away. Of
-- a.net, which calls b.net:
--   PASS is put out            with words, unless b.net is known to refuse them
--   SERVER is put out          as it is
--   PASS comes, with words     the server is given it without them: pieces are counted
--   SERVER comes               the server is given it, and b.net is met
--   behind that                what is put out goes in pieces, and what comes does
-- Of an end that was called its PASS has the words that the other's had. Where one of the two has
-- none, lines go one by one, each as it is.
use Rattle.std.specs.Prelude.{ℕ, Bool, true, false, not, ◌&&◌, ◌||◌, is_some, Option, Some, None}
use Rattle.std.specs.Prelude.{List, [], ◌∷◌, if◌then◌else◌}
use Rattle.std.specs.Option.{option_map_or}
use Rattle.irc_pieces.specs.Ends.{after_line, has_put_out, has_told, heard_line, nothing_begun}
use Rattle.irc_pieces.specs.Pieces.{CountedEnd}
use Rattle.irc_pieces.specs.declared.piece_end.Heard.{Heard}
use Rattle.irc_pieces.specs.declared.piece_end.Heard.TheVariants.{Piece}
use Rattle.irc_link_end.specs.Offers.{offer_in, offers_away, without_words}
use Rattle.irc_link_end.specs.declared.greeting.Greeting.{Greeting}
use Rattle.irc_link_end.specs.declared.greeting.Greeting.TheVariants as greeting
use Rattle.irc_link_end.specs.declared.greeting.WayOut.{WayOut}
use Rattle.irc_link_end.specs.declared.greeting.WayOut.TheVariants.{Plain, WithWords, InPiece}
use Rattle.irc_link_end.specs.declared.offer.Offer.{Offer}

-- whether it called; what its PASS offers, and the other's has offered; what was put out of the two
-- lines with which a link begins; whether the other end has named itself; and its pieces
pub record EndOfLink : Type 0 where
  pub calls : Bool
  pub offers : Option Offer
  pub offered : Option Offer
  pub greeting : Greeting
  pub is_met : Bool
  pub pieces : CountedEnd

abbrev pub new_end : Bool → Option Offer → EndOfLink
new_end calls offers = record {
  calls = calls;
  offers = offers;
  offered = None;
  greeting = greeting.Nothing;
  is_met = false;
  pieces = nothing_begun;
}

-- an end that calls a server, and what it offers, if anything; and one that is called
abbrev pub calling : Option Offer → EndOfLink
calling offers = new_end true offers

abbrev pub called : EndOfLink
called = new_end false None

-- both ends count pieces
abbrev pub counts : EndOfLink → Bool
counts end = is_some end.offers && is_some end.offered

-- lines tell who is away
abbrev pub tells_away : EndOfLink → Bool
tells_away end = offers_away end.offers && offers_away end.offered

-- ---- what comes

abbrev pub alone : List ℕ → Heard
alone line = Piece (record { lines = line ∷ []; mark = None })

-- what is offered by a line; an end that calls without words takes none
abbrev pub taken_off : List ℕ → EndOfLink → Option Offer
taken_off line end = if is_some end.offers || not end.calls then offer_in line else None

-- an end that was called offers just what it is offered
abbrev pub answers : Offer → EndOfLink → EndOfLink
answers offer end = record end {
  offers = if end.calls then end.offers else Some offer;
  offered = Some offer;
}

abbrev pub heard_first : List ℕ → EndOfLink → Heard
heard_first line end =
    alone (option_map_or (λ offer. without_words offer line) (taken_off line end) line)

abbrev pub after_first : List ℕ → EndOfLink → EndOfLink
after_first line end = option_map_or (λ offer. answers offer end) (taken_off line end) end

-- what of a line is for the server; before the other end is met each is, and where pieces are not
-- counted
abbrev pub heard_at : List ℕ → EndOfLink → Heard
heard_at line end =
    if not end.is_met then heard_first line end
    else (if counts end then heard_line line end.pieces else alone line)

abbrev pub with_pieces : CountedEnd → EndOfLink → EndOfLink
with_pieces pieces end = record end { pieces = pieces }

abbrev pub after_hearing : List ℕ → EndOfLink → EndOfLink
after_hearing line end =
    if not end.is_met then after_first line end
    else (if counts end then with_pieces (after_line line end.pieces) end else end)

abbrev pub met : EndOfLink → EndOfLink
met end = record end { is_met = true }

-- ---- what goes out

-- its first two lines are PASS and SERVER
abbrev pub way_by : Greeting → EndOfLink → WayOut
way_by greeting.Nothing end = option_map_or WithWords end.offers Plain
way_by greeting.Password end = Plain
way_by greeting.Whole end = if counts end then InPiece else Plain

abbrev pub way_out : EndOfLink → WayOut
way_out end = way_by end.greeting end

abbrev pub greeting_behind : Greeting → Greeting
greeting_behind greeting.Nothing = greeting.Password
greeting_behind done = greeting.Whole

abbrev pub after_line_out : EndOfLink → EndOfLink
after_line_out end = record end { greeting = greeting_behind end.greeting }

abbrev pub after_piece_out : EndOfLink → EndOfLink
after_piece_out end = with_pieces (has_put_out end.pieces) end

abbrev pub after_count_out : EndOfLink → EndOfLink
after_count_out end = with_pieces (has_told end.pieces) end
