-- The effects by which a user does something under its own name and stays a user: texts, channels
-- that it joins or leaves, kicks, invitations, topics, and modes.
use Rattle.std.specs.Prelude.{◌≡◌, ℕ, Bool, true, false, Some, None, List}
use Rattle.irc_names.specs.Fold.{key}
use Rattle.irc_names.specs.Names.{is_channel}
use Rattle.irc_names.specs.Tables.{row}
use Rattle.irc_users.specs.declared.user.User.{User}
use Rattle.irc_users.specs.declared.user_change.UserChange.{UserChange}
use Rattle.irc_channels.specs.declared.channel.Channel.{Channel}
use Rattle.irc_channels.specs.Channels.{has_member}
use Rattle.irc_modes.specs.declared.modes.ModeChange.{ModeChange}
use Rattle.irc_room.specs.effect.By.TheVariants as by
use Rattle.irc_room.specs.effect.Target.TheVariants as target
use Rattle.irc_room.specs.effect.Effect.{Effect}
use Rattle.irc_room.specs.effect.Effect.TheVariants.{Join, Part, Kick, ChangeModes, SetTopic, Say}
use Rattle.irc_room.specs.effect.Effect.TheVariants.{Invite, ChangeUser}
use Rattle.irc_room.specs.Room.{Room}
use Rattle.irc_room.specs.InTurn.{EachInTurn}
use Rattle.irc_acts.specs.declared.act.Act.{Act}
use Rattle.irc_acts.specs.Acts.{bytes_kept, effects_among}

-- a channel's name: of one that was found under some spelling, or by the rule for names where none
-- was
pub data IsChannelName (room : Room) : List ℕ → Type 0 where
  of_found : (name : List ℕ) (channel : Channel) → row room.channels (key name) ≡ Some channel
      → IsChannelName room channel.name
  by_rule : (name : List ℕ) → is_channel name ≡ true → row room.channels (key name) ≡ None
      → IsChannelName room name

-- The user does it, and what it names was found in the room, under some spelling; a channel that
-- the user makes by joining it, or that somebody is invited to, need not be there. Who joins is no
-- member yet, and who leaves or is kicked is one.
pub data IsOwn (me : User) (room : Room) : Effect → Type 0 where
  to_user : (name : List ℕ) (other : User) (notice : Bool) (words : List ℕ)
      → row room.users (key name) ≡ Some other
      → IsOwn me room (Say me.nick notice (target.User other.nick) (bytes_kept words))
  to_channel : (name : List ℕ) (channel : Channel) (notice : Bool) (words : List ℕ)
      → row room.channels (key name) ≡ Some channel
      → IsOwn me room (Say me.nick notice (target.Channel channel.name) (bytes_kept words))
  makes : (name : List ℕ) → is_channel name ≡ true → row room.channels (key name) ≡ None
      → IsOwn me room (Join me.nick name true)
  enters : (name : List ℕ) (channel : Channel) → row room.channels (key name) ≡ Some channel
      → has_member (key me.nick) channel ≡ false
      → IsOwn me room (Join me.nick channel.name false)
  parts : (name text : List ℕ) (channel : Channel) → row room.channels (key name) ≡ Some channel
      → has_member (key me.nick) channel ≡ true
      → IsOwn me room (Part me.nick channel.name text)
  sets_topic : (name text : List ℕ) (channel : Channel)
      → row room.channels (key name) ≡ Some channel
      → IsOwn me room (SetTopic (by.User me.nick) channel.name text)
  kicks : (name nick text : List ℕ) (channel : Channel) (other : User)
      → row room.channels (key name) ≡ Some channel
      → has_member (key nick) channel ≡ true → row room.users (key nick) ≡ Some other
      → IsOwn me room (Kick me.nick channel.name other.nick text)
  invites : (nick name : List ℕ) (other : User) → row room.users (key nick) ≡ Some other
      → IsChannelName room name
      → IsOwn me room (Invite me.nick other.nick name)
  changes_modes : (name : List ℕ) (changes : List ModeChange) (channel : Channel)
      → row room.channels (key name) ≡ Some channel
      → IsOwn me room (ChangeModes (by.User me.nick) channel.name changes)
  changes_itself : (change : UserChange) → IsOwn me room (ChangeUser me.nick change)

-- each effect of these steps is its own in the room that those before it have left
abbrev pub AreOwn : User → Room → List Act → Type 0
AreOwn me room acts = EachInTurn (IsOwn me) room (effects_among acts)
