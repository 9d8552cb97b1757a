-- The names of an effect that can be sent keep their rules, and are written as they are.
use Rattle.std.proofs.Common.{◌≡◌, ℕ, Option, Some, None, List, subst, refl}
use Rattle.std.specs.Option.{option_map, option_map_or}
use Rattle.std.proofs.lemmas.Option.{same_Some}
use Rattle.irc_names.specs.Fold.{key}
use Rattle.irc_names.specs.Names.{IsNick, IsChannel}
use Rattle.irc_names.specs.Tables.{row}
use Rattle.irc_users.specs.declared.user.User.{User}
use Rattle.irc_channels.specs.declared.channel.Channel.{Channel}
use Rattle.irc_room.specs.Limits.{IsWithinLimits}
use Rattle.irc_room.specs.Room.{Room}
use Rattle.irc_room.specs.Seen.{stored_nick, stored_channel}
use Rattle.irc_room.specs.Sendable.{IsStoredNick, IsStoredChannel, IsNameFor, IsChannelOrNew}

-- a name that keeps its rule, and is written as it is
pub record IsKeptAs (rule : List ℕ → Type 0) (written name : List ℕ) : Type 0 where
  pub kept : rule name
  pub as_is : written ≡ name

pub nick_kept : (room : Room) (nick : List ℕ) → IsWithinLimits room → IsStoredNick room nick
    → IsKeptAs IsNick (stored_nick room nick) nick
nick_kept room nick within is = by (row room.users (key nick)) refl is
  where
    by : (o : Option User) → row room.users (key nick) ≡ o
        → option_map (λ (user : User). user.nick) o ≡ Some nick
        → IsKeptAs IsNick (option_map_or (λ (user : User). user.nick) o nick) nick
    by None at is = cc is
    by (Some user) at is =
        let same = same_Some user.nick nick is in
        record { kept = subst IsNick same (within.users (key nick) user at).nick; as_is = same }

pub channel_kept : (room : Room) (name : List ℕ) → IsWithinLimits room → IsChannelOrNew room name
    → IsKeptAs IsChannel (stored_channel room name) name
channel_kept room name within is = by (row room.channels (key name)) refl is
  where
    by : (o : Option Channel) → row room.channels (key name) ≡ o → IsNameFor name o
        → IsKeptAs IsChannel (option_map_or (λ (c : Channel). c.name) o name) name
    by None at is = record { kept = is; as_is = refl }
    by (Some channel) at is = record {
      kept = subst IsChannel is
          (within.channels (key name) channel at).name;
      as_is = is;
    }

pub channel_there : (room : Room) (name : List ℕ) → IsStoredChannel room name
    → IsChannelOrNew room name
channel_there room name is = by (row room.channels (key name)) is
  where
    by : (o : Option Channel) → option_map (λ (channel : Channel). channel.name) o ≡ Some name
        → IsNameFor name o
    by None is = cc is
    by (Some channel) is = same_Some channel.name name is

-- a name by the rule is one as the room spells it too
pub nick_stays : (room : Room) (nick : List ℕ) → IsWithinLimits room → IsNick nick
    → IsNick (stored_nick room nick)
nick_stays room nick within is = by (row room.users (key nick)) refl
  where
    by : (o : Option User) → row room.users (key nick) ≡ o
        → IsNick (option_map_or (λ (user : User). user.nick) o nick)
    by None at = is
    by (Some user) at = (within.users (key nick) user at).nick

pub channel_stays : (room : Room) (channel : List ℕ) → IsWithinLimits room → IsChannel channel
    → IsChannel (stored_channel room channel)
channel_stays room channel within is = by (row room.channels (key channel)) refl
  where
    by : (o : Option Channel) → row room.channels (key channel) ≡ o
        → IsChannel (option_map_or (λ (c : Channel). c.name) o channel)
    by None at = is
    by (Some c) at = (within.channels (key channel) c at).name
