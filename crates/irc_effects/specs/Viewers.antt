-- What one user is shown by an effect.
use Rattle.std.specs.Prelude.{◌≡◌, ℕ, Option, None, List, map, filter, option_to_list}
use Rattle.std.specs.Prelude.{if◌then◌else◌}
use Rattle.std.specs.Option.{option_and_then}
use Rattle.irc_names.specs.Fold.{key, same}
use Rattle.irc_names.specs.Tables.{row}
use Rattle.irc_users.specs.declared.user.User.{User}
use Rattle.irc_effects.specs.declared.effect.Effect.{Effect}
use Rattle.irc_effects.specs.Room.{Room, IsWellFormed}
use Rattle.irc_effects.specs.Effects.{is_idle}
use Rattle.irc_effects.specs.Seen.{Showing, seen, sees, shown_line}

-- the line for a user of the room, if it sees the effect
abbrev pub line_for : Room → Effect → User → Option (List ℕ)
line_for room effect user = if sees room effect user.nick then shown_line room effect user else None

-- the line that an effect shows to the user of a nickname: none where the effect is idle, there is
-- no such user, or it does not see it
unfoldable pub shows_to : Room → Effect → List ℕ → Option (List ℕ)
shows_to room effect nick = if is_idle room effect then None
    else option_and_then (line_for room effect) (row room.users (key nick))

-- the lines of one viewer among all that is seen
abbrev pub OneViewersLines : Type 0
OneViewersLines = (room : Room) (effect : Effect) (nick : List ℕ) → IsWellFormed room
    → map (λ (s : Showing). s.line) (filter (λ (s : Showing). same s.viewer nick)
    (seen room effect)) ≡ option_to_list (shows_to room effect nick)
