-- The room after an effect (RFC 2811 sections 2 to 4; RFC 2812 section 3). Each effect alters one
-- row or each row of a table.
use Rattle.std.specs.Prelude.{ℕ, Option, Some, None, List, unwrap_or}
use Rattle.std.specs.Option.{option_and_then, option_map}
use Rattle.irc_names.specs.Fold.{key}
use Rattle.irc_names.specs.Tables.{alter, each, moved}
use Rattle.irc_users.specs.declared.user.User.{User}
use Rattle.irc_users.specs.UserTable.{with_nick, with_change}
use Rattle.irc_channels.specs.declared.channel.Channel.{Channel}
use Rattle.irc_channels.specs.Channels.{new_channel, joined, left, without_user, renamed}
use Rattle.irc_channels.specs.Channels.{invited_too, with_topic, respelled, all_changed}
use Rattle.irc_effects.specs.declared.effect.Effect.{Effect}
use Rattle.irc_effects.specs.declared.effect.Effect.TheVariants.{AddUser, Rename, Quit, Join, Part}
use Rattle.irc_effects.specs.declared.effect.Effect.TheVariants.{Kick, ChangeModes, SetTopic, Say}
use Rattle.irc_effects.specs.declared.effect.Effect.TheVariants.{Invite, ChangeUser}
use Rattle.irc_effects.specs.Room.{Room}

-- one user, or one channel, made, changed or taken out
abbrev pub alter_user : List ℕ → (Option User → Option User) → Room → Room
alter_user nick change room = record room { users = alter (key nick) change room.users }

abbrev pub alter_channel : List ℕ → (Option Channel → Option Channel) → Room → Room
alter_channel name change room = record room { channels = alter (key name) change room.channels }

unfoldable pub after : Room → Effect → Room
after room (AddUser user) = alter_user user.nick (λ _. Some user) room
-- the spelling is the new one, and memberships and invitations go with the user
after room (Rename nick new) = record {
  users = moved (key nick) (key new) (with_nick new) room.users;
  channels = each (λ channel. Some (renamed (key nick) (key new) channel)) room.channels;
}
-- every channel that the user was the last member of ends
after room (Quit nick text) = record {
  users = alter (key nick) (λ _. None) room.users;
  channels = each (without_user (key nick)) room.channels;
}
-- a channel that is not there is made, with the spelling given
after room (Join nick channel op) = alter_channel channel
    (λ c. Some (joined (key nick) op (unwrap_or c (new_channel channel)))) room
after room (Part nick channel text) = alter_channel channel (option_and_then (left (key nick))) room
after room (Kick by channel nick text) =
    alter_channel channel (option_and_then (left (key nick))) room
after room (ChangeModes by channel changes) =
    alter_channel channel (option_map (all_changed changes)) room
after room (SetTopic by channel text) = alter_channel channel (option_map (with_topic text)) room
after room (Say by notice target text) = room
-- an invitation to a channel that is not there is not kept (our own choice)
after room (Invite by nick channel) =
    alter_channel channel (option_map (invited_too (key nick))) room
after room (ChangeUser nick change) = alter_user nick (option_map (with_change change)) room

-- The name of a channel is spelled as given, where that is greater by bytes. It is a step of a
-- room that is no effect: nobody does it, and nobody is shown it.
abbrev pub titled_by : List ℕ → Room → Room
titled_by channel room = alter_channel channel (option_map (respelled channel)) room
