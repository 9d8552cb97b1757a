-- What an effect names in a room, as it is found once.
use Rattle.std.specs.Prelude.{◌≡◌, ℕ, Bool, false, List, Option, Some, None}
use Rattle.std.specs.Option.{option_and_then, option_copied, option_map_or}
use Rattle.irc_names.specs.Fold.{key}
use Rattle.irc_names.specs.Tables.{Table, row}
use Rattle.irc_channels.specs.declared.channel.Channel.{Channel}
use Rattle.irc_channels.specs.Channels.{has_member}
use Rattle.irc_effects.specs.declared.effect.Effect.{Effect}
use Rattle.irc_effects.specs.declared.effect.Effect.TheVariants.{Join, Part, Kick, Invite}
use Rattle.irc_effects.specs.Effects.{doer_of, needs_channel, needs_other}
use Rattle.irc_effects.specs.Room.{Room}
use Rattle.irc_room.specs.declared.named.Named.{Named}

-- the channel that an effect is about: that of a Join or an Invite need not be there
abbrev pub channel_of : Effect → Option (List ℕ)
channel_of (Join nick channel op) = Some channel
channel_of (Invite by nick channel) = Some channel
channel_of other = needs_channel other

-- the nickname of the user that comes into a channel by it, or goes
abbrev pub mover_of : Effect → Option (List ℕ)
mover_of (Join nick channel op) = Some nick
mover_of (Part nick channel text) = Some nick
mover_of (Kick by channel nick text) = Some nick
mover_of other = None

-- the row under a name, where there is a name
abbrev pub row_of : {X : Type 0} → Table X → Option (List ℕ) → Option X
row_of table name = option_and_then (λ n. row table (key n)) name

-- whether a user is a member of a channel, where there are both
abbrev pub is_in : Option Channel → Option (List ℕ) → Bool
is_in channel nick =
    option_map_or (λ n. option_map_or (has_member (key n)) channel false) nick false

-- the users of the nicknames that it needs, the channel that it is about, and whether who comes
-- or goes is a member of it
pub record IsNamed (room : Room) (effect : Effect) (named : Named) : Type 0 where
  pub doer : option_copied named.doer ≡ row_of room.users (doer_of effect)
  pub other : option_copied named.other ≡ row_of room.users (needs_other effect)
  pub channel : option_copied named.channel ≡ row_of room.channels (channel_of effect)
  pub is_member : named.is_member ≡ is_in (row_of room.channels (channel_of effect))
      (mover_of effect)
