-- What one user is shown by some effects.
use Rattle.std.specs.Prelude.{ℕ, List, [], ◌∷◌, ◌++◌, option_to_list}
use Rattle.irc_room.specs.effect.Effect.{Effect}
use Rattle.irc_room.specs.Room.{Room}
use Rattle.irc_room.specs.After.{after}
use Rattle.irc_room.specs.Viewers.{shows_to}

-- the lines that the user of a nickname is shown by some effects, one after another
abbrev pub shown_along : List ℕ → Room → List Effect → List (List ℕ)
shown_along viewer room [] = []
shown_along viewer room (effect ∷ effects) =
    option_to_list (shows_to room effect viewer) ++ shown_along viewer (after room effect) effects
