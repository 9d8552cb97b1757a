-- Who comes to a channel and who leaves it, by some steps that are decided.
use Rattle.std.specs.Prelude.{◌≡◌, ℕ, true, false, List, filter, length}
use Rattle.std.specs.Option.{option_map_or}
use Rattle.std.specs.FinMap.{keys, values}
use Rattle.irc_names.specs.Fold.{key}
use Rattle.irc_names.specs.Tables.{row}
use Rattle.irc_users.specs.declared.user.User.{User}
use Rattle.irc_channels.specs.declared.channel.Channel.{Channel}
use Rattle.irc_channels.specs.Channels.{has_member}
use Rattle.irc_room.specs.effect.Effect.{Effect}
use Rattle.irc_room.specs.effect.Effect.TheVariants.{Join, Part, Kick}
use Rattle.irc_room.specs.Room.{Room}
use Rattle.irc_room.specs.Effects.{is_member}
use Rattle.irc_room.specs.InTurn.{EachInTurn}
use Rattle.irc_acts.specs.declared.act.Act.{Act}
use Rattle.irc_acts.specs.Acts.{effects_among}

-- the channels that a user is a member of, in folded order
abbrev pub own_channels : Room → User → List Channel
own_channels room me = filter (has_member (key me.nick)) (values room.channels)

-- how many members the channel with a fold has; one that is not there has none
abbrev pub members_at : Room → List ℕ → ℕ
members_at room fold =
    option_map_or (λ (channel : Channel). length (keys channel.members)) (row room.channels fold) 0

-- who joins is no member yet, and who leaves or is kicked is one
abbrev pub IsMove : Room → Effect → Type 0
IsMove room (Join nick channel op) = is_member room nick channel ≡ false
IsMove room (Part nick channel text) = is_member room nick channel ≡ true
IsMove room (Kick by channel nick text) = is_member room nick channel ≡ true
IsMove room other = ⊥

-- each effect of these steps is such a one in the room that those before it have left
abbrev pub AreMoves : Room → List Act → Type 0
AreMoves room acts = EachInTurn IsMove room (effects_among acts)

-- a member leaves, or is kicked
abbrev pub IsLeave : Room → Effect → Type 0
IsLeave room (Part nick channel text) = is_member room nick channel ≡ true
IsLeave room (Kick by channel nick text) = is_member room nick channel ≡ true
IsLeave room other = ⊥

abbrev pub AreLeaves : Room → List Act → Type 0
AreLeaves room acts = EachInTurn IsLeave room (effects_among acts)

-- the user of this nickname joins a channel that it is not in
abbrev pub IsOwnJoin : List ℕ → Room → Effect → Type 0
IsOwnJoin nick room (Join who channel op) = (who ≡ nick) × (is_member room nick channel ≡ false)
IsOwnJoin nick room other = ⊥

abbrev pub AreOwnJoins : List ℕ → Room → List Act → Type 0
AreOwnJoins nick room acts = EachInTurn (IsOwnJoin nick) room (effects_among acts)
