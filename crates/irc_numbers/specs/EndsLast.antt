-- Nothing is put out to a client behind its end.
--
-- a.net has al as connection 9, and a KILL of al comes by a link: line_to 9 `ERROR :..`, end_of 9,
-- and to 9 nothing more
use Rattle.std.specs.Prelude.{◌≡◌, ℕ, Bool, true, false, Option, Some, None, List, [], ◌∷◌}
use Rattle.irc_stage.specs.View.{View}
use Rattle.irc_server.specs.Served.{ReadEvent, served}
use Rattle.irc_numbers.specs.ServedAlike.{client_part}

-- whether nothing is behind an end
abbrev pub ends_last : List (Option (List ℕ)) → Bool
ends_last [] = true
ends_last (Some line ∷ part) = ends_last part
ends_last (None ∷ []) = true
ends_last (None ∷ (next ∷ part)) = false

-- Whatever is served, it is so of each client's part.
abbrev pub NothingIsBehindAnEnd : Type 0
NothingIsBehindAnEnd = (view : View) (read_event : ReadEvent) (conn : ℕ)
    → ends_last (client_part conn (served view read_event).out) ≡ true
