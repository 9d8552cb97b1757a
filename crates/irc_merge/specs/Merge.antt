-- Two halves of a network become one (RFC 2813 section 5.3.2, RFC 2812 section 3.7.1). This says
-- what is then there, and nothing of the lines by which the halves tell it to each other.
use Rattle.std.specs.Prelude.{◌≡◌, ℕ, Option, Some, None, List, is_some, filter}
use Rattle.std.specs.FinMap.{values, empty}
use Rattle.irc_names.specs.Fold.{key}
use Rattle.irc_names.specs.Greater.{bytes_cmp, greater}
use Rattle.irc_names.specs.Tables.{row, each, both}
use Rattle.irc_modes.specs.Joined.{joined_modes}
use Rattle.irc_users.specs.declared.user.User.{User}
use Rattle.irc_channels.specs.declared.channel.Channel.{Channel}
use Rattle.irc_room.specs.Room.{Room}
use Rattle.irc_room.specs.InTurn.{after_all}
use Rattle.irc_merge.specs.Quits.{quits_of, collision_text}

-- the users of one room whose nicknames are held in another too, in folded order
abbrev pub clash : Room → Room → List User
clash room other =
    filter (λ (user : User). is_some (row other.users (key user.nick))) (values room.users)

-- a room after these have quit
unfoldable pub room_without : Room → Room → Room
room_without room other = after_all room (quits_of collision_text (clash room other))

-- two channels of one name are alike but for who is in them
pub record AreAlike (one other : Channel) : Type 0 where
  pub name : one.name ≡ other.name
  pub modes : one.modes ≡ other.modes
  pub topic : one.topic ≡ other.topic

-- Two rooms agree where each channel that is in both, once whoever clashes has quit, has one name
-- by bytes, the same modes with key, limit and bans, and one topic.
pub record Agree (one other : Room) : Type 0 where
  pub alike : (fold : List ℕ) (c d : Channel) → row (room_without one other).channels fold ≡ Some c
      → row (room_without other one).channels fold ≡ Some d → AreAlike c d

-- a row of one table or of another; where both have one, that of the first
abbrev pub either : {X : Type 0} → Option X → Option X → Option X
either (Some x) other = Some x
either None other = other

-- Two descriptions of one channel, joined (our own choice): of two spellings and of two topics the
-- greater by bytes, where no topic is the least; the modes of both; the members and the invited of
-- both.
abbrev pub one_channel : Channel → Channel → Channel
one_channel one other = record {
  name = greater bytes_cmp one.name other.name;
  modes = joined_modes one.modes other.modes;
  topic = greater bytes_cmp one.topic other.topic;
  members = both either one.members other.members;
  invited = both either one.invited other.invited;
}

-- a channel that one of two rooms has alone stays as it is there
abbrev pub joined_channel : Option Channel → Option Channel → Option Channel
joined_channel (Some one) (Some other) = Some (one_channel one other)
joined_channel (Some one) None = Some one
joined_channel None other = other

-- all users, channels, members and invitations of both rooms
abbrev pub union : Room → Room → Room
union one other = record {
  users = both either one.users other.users;
  channels = both joined_channel one.channels other.channels;
}

-- the room of the network that two halves become
unfoldable pub merge : Room → Room → Room
merge one other = union (room_without one other) (room_without other one)

-- Invitations are kept by the invited user's own server, and told to no other.
abbrev pub channel_uninvited : Channel → Option Channel
channel_uninvited channel = Some (record channel { invited = empty })

abbrev pub uninvited : Room → Room
uninvited room = record room { channels = each channel_uninvited room.channels }
