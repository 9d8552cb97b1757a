-- A room as four tables: users, channels, members and invitations, each by the folds of the names
-- in it.
use Rattle.std.specs.Prelude.{ℕ, Bool, false, not, Option, List, map, filter}
use Rattle.std.specs.Option.{option_and_then, option_map, option_map_or}
use Rattle.std.specs.Borrow.{Bor}
use Rattle.std.specs.FinMap.{entries, values}
use Rattle.irc_names.specs.Fold.{key}
use Rattle.irc_names.specs.Tables.{row}
use Rattle.irc_tables.specs.declared.table.Row.{Row}
use Rattle.irc_tables.specs.RowViews.{row_entry}
use Rattle.irc_users.specs.declared.user.User.{User}
use Rattle.irc_users.specs.UserTable.{is_home}
use Rattle.irc_channels.specs.declared.flags.Flags.{Flags}
use Rattle.irc_channels.specs.declared.channel.Channel.{Channel}
use Rattle.irc_channels.specs.Channels.{has_member, is_invited}
use Rattle.irc_effects.specs.Room.{Room}
use Rattle.irc_effects.specs.declared.effect.Effect.{Effect}
use Rattle.irc_effects.specs.Effects.{is_member}
use Rattle.irc_effects.specs.Seen.{seen}

-- the user with this fold
abbrev pub user_at : Room → List ℕ → Option User
user_at room nick = row room.users nick

-- the server that the user with this fold is connected to
abbrev pub home_under : Room → List ℕ → Option (List ℕ)
home_under room nick = option_map (λ (user : User). user.home) (row room.users nick)

-- its nickname as it is spelled, and whether it is without mode i
abbrev pub spelling_at : Room → List ℕ → Option (List ℕ)
spelling_at room nick = option_map (λ (user : User). user.nick) (row room.users nick)

abbrev pub is_visible_at : Room → List ℕ → Option Bool
is_visible_at room nick = option_map (λ (user : User). not user.invisible) (row room.users nick)

-- the users that are connected to a server, in folded order of their nicknames
abbrev pub users_of : Room → List ℕ → List User
users_of room home = filter (is_home home) (values room.users)

-- the channels that the user of a nickname is a member of, in folded order of their names
abbrev pub channels_of : Room → List ℕ → List (List ℕ × Channel)
channels_of room nick = filter (λ e. has_member (key nick) e.1) (entries room.channels)

-- the folds of their names, in that order
abbrev pub names_of : Room → List ℕ → List (List ℕ)
names_of room nick = map (λ e. e.0) (channels_of room nick)

-- the nicknames of all who see an effect, in folded order
abbrev pub viewers_of : Room → Effect → List (List ℕ)
viewers_of room effect = map (λ s. s.viewer) (seen room effect)

-- users and channels, without where they lie
abbrev pub users_now : List (Bor User) → List User
users_now users = map (λ user. user.now) users

abbrev pub rows_now : List (Bor (Row Channel)) → List (List ℕ × Channel)
rows_now rows = map (λ row. row_entry row.now) rows

-- the channel with this fold
abbrev pub channel_at : Room → List ℕ → Option Channel
channel_at room channel = row room.channels channel

-- the flags of a member of a channel
abbrev pub flags_at : Room → List ℕ → List ℕ → Option Flags
flags_at room nick channel =
    option_and_then (λ (c : Channel). row c.members nick) (row room.channels channel)

-- whether a user is invited to a channel
abbrev pub is_invited_at : Room → List ℕ → List ℕ → Bool
is_invited_at room nick channel = option_map_or (is_invited nick) (row room.channels channel) false

-- the nicknames of the members of a channel, in folded order
abbrev pub nicks_in : Room → List ℕ → List (List ℕ)
nicks_in room channel = map (λ (user : User). user.nick)
    (filter (λ (user : User). is_member room user.nick channel) (values room.users))
