-- Rooms that differ in one channel alone, and who is outside of it.
use Rattle.std.specs.Prelude.{◌≡◌, ◌≢◌, ℕ, Bool, true, false, None, List}
use Rattle.std.specs.Option.{option_map_or}
use Rattle.irc_names.specs.Fold.{key}
use Rattle.irc_names.specs.Tables.{row}
use Rattle.irc_modes.specs.Raised.{is_secret}
use Rattle.irc_channels.specs.declared.channel.Channel.{Channel}
use Rattle.irc_effects.specs.Room.{Room}
use Rattle.irc_effects.specs.Effects.{is_member}
use Rattle.irc_effects.specs.After.{alter_channel}

-- The two have the same users, and each channel of another name alike. Of this one nothing is said:
-- whether it is there, who is in it, flags, modes, key, limit, bans, topic, spelling, invitations.
pub record AreAlikeButFor (channel : List ℕ) (one other : Room) : Type 0 where
  pub users : one.users ≡ other.users
  pub channels : (fold : List ℕ) → fold ≢ key channel
      → row one.channels fold ≡ row other.channels fold

-- the room with no such channel
abbrev pub without : List ℕ → Room → Room
without channel room = alter_channel channel (λ _. None) room

-- whether the channel has mode s, or is not there
abbrev pub is_secret_or_none : Room → List ℕ → Bool
is_secret_or_none room channel =
    option_map_or (λ (c : Channel). is_secret c.modes.privacy) (row room.channels (key channel))
    true

-- the user of a nickname is no member of the channel of a name
abbrev pub IsNoMember : List ℕ → List ℕ → Room → Type 0
IsNoMember user channel room = is_member room user channel ≡ false

-- The channel is secret or not there, and the user is no member of it.
pub record IsOutsider (user channel : List ℕ) (room : Room) : Type 0 where
  pub hidden : is_secret_or_none room channel ≡ true
  pub no_member : IsNoMember user channel room
