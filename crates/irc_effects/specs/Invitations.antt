-- Who is invited, as one server knows it: an invitation is kept by the invited user's server alone
-- (our own choice).
use Rattle.std.specs.Prelude.{◌≡◌, ℕ, Bool, true, false, Some, List, if◌then◌else◌}
use Rattle.std.specs.Option.{option_map_or}
use Rattle.std.specs.FinMap.{retain_keys}
use Rattle.irc_names.specs.Fold.{key}
use Rattle.irc_names.specs.Tables.{Table, row, each}
use Rattle.irc_users.specs.declared.user.User.{User}
use Rattle.irc_users.specs.UserTable.{is_home}
use Rattle.irc_channels.specs.declared.channel.Channel.{Channel}
use Rattle.irc_effects.specs.declared.effect.Effect.{Effect}
use Rattle.irc_effects.specs.declared.effect.Effect.TheVariants.{Invite}
use Rattle.irc_effects.specs.Room.{Room, IsWellFormed}
use Rattle.irc_effects.specs.Effects.{brings_free}
use Rattle.irc_effects.specs.After.{after}

-- whether there is a user with this fold, and it is connected to a server
abbrev pub is_at : List ℕ → Table User → List ℕ → Bool
is_at home users nick = option_map_or (is_home home) (row users nick) false

-- the channel with the invitations of those alone who pass a test
abbrev pub inviting_only : (List ℕ → Bool) → Channel → Channel
inviting_only stays channel = record channel { invited = retain_keys channel.invited stays }

abbrev pub with_invited : (List ℕ → Bool) → Room → Room
with_invited stays room =
    record room { channels = each (λ channel. Some (inviting_only stays channel)) room.channels }

-- the room with the invitations of one server's users alone
unfoldable pub of_home : List ℕ → Room → Room
of_home home room = with_invited (is_at home room.users) room

-- The room after an effect at one server, which keeps the invitations of its own users alone: one
-- of another server's user changes nothing there.
abbrev pub after_at : List ℕ → Room → Effect → Room
after_at home room (Invite by nick channel) = if is_at home room.users (key nick)
    then after room (Invite by nick channel) else room
after_at home room other = after room other

-- What a server has of the room after an effect is what the effect makes of what it had of the
-- room.
abbrev pub HomeFollows : Type 0
HomeFollows = (home : List ℕ) (room : Room) (effect : Effect) → IsWellFormed room
    → brings_free room effect ≡ true
    → of_home home (after room effect) ≡ after_at home (of_home home room) effect

-- what a server has of a well-formed room is well formed
abbrev pub HomeIsWellFormed : Type 0
HomeIsWellFormed =
    (home : List ℕ) (room : Room) → IsWellFormed room → IsWellFormed (of_home home room)

-- what a server has of what it has is the same
abbrev pub HomeOfHome : Type 0
HomeOfHome = (home : List ℕ) (room : Room) → of_home home (of_home home room) ≡ of_home home room
