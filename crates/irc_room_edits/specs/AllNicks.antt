-- A list of all nicknames, by their folds, as laws of edits ask for it: all words of at most as
-- many bytes as a nickname has. They are more than could be written, and are never computed.
--
--   at most 2 of the bytes below 2    [], [1], [1, 1], [1, 0], [0], [0, 1], [0, 0]
use Rattle.std.specs.Prelude.{ℕ, zero, suc, List, [], ◌∷◌, map}
use Rattle.std.specs.List.{flat_map}
use Rattle.irc_names.specs.Limits.{max_nick}
use Rattle.irc_edited_rooms.specs.Documents.{Nick}
use Rattle.irc_room_edits.specs.Laws.{HasAllNicks}

-- the numbers below a bound
unfoldable pub bytes_below : ℕ → List ℕ
bytes_below zero = []
bytes_below (suc bound) = bound ∷ bytes_below bound

-- all words of at most so many of some bytes
unfoldable pub words : List ℕ → ℕ → List (List ℕ)
words bytes zero = [] ∷ []
words bytes (suc most) = [] ∷ flat_map (λ byte. map (λ word. byte ∷ word) (words bytes most)) bytes

unfoldable pub all_nicks : List Nick
all_nicks = words (bytes_below 256) max_nick

-- All nicknames are among them.
abbrev pub AllNicksAreListed : Type 0
AllNicksAreListed = HasAllNicks all_nicks
