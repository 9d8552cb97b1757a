-- What an effect has to be so that each server that reads the line that tells of it gets just this
-- effect (RFC 2813 section 4). Whether it is possible is not asked here. What only a server does is
-- no such effect: a Home has no nickname that the line could be from.
use Rattle.std.specs.Prelude.{◌≡◌, ℕ, ◌≤◌, Bool, true, false, Option, Some, None, List, [], ◌∷◌}
use Rattle.std.specs.Prelude.{codes, length, if◌then◌else◌}
use Rattle.std.specs.List.{AllByRecursion}
use Rattle.std.specs.Option.{option_map, IfSome}
use Rattle.irc_line.specs.Carried.{IsCarried}
use Rattle.irc_line.specs.Limits.{max_line}
use Rattle.irc_line.specs.Messages.{Written, joined_text}
use Rattle.irc_names.specs.Fold.{key}
use Rattle.irc_names.specs.Names.{IsNick, IsChannel}
use Rattle.irc_names.specs.Tables.{row}
use Rattle.irc_users.specs.declared.user.User.{User}
use Rattle.irc_users.specs.declared.user_change.UserChange.{UserChange}
use Rattle.irc_users.specs.ChangesTold.{as_introduced}
use Rattle.irc_channels.specs.declared.channel.Channel.{Channel}
use Rattle.irc_modes.specs.Readable.{AreReadable}
use Rattle.irc_modes.specs.declared.modes.ModeChange.{ModeChange}
use Rattle.irc_effects.specs.declared.effect.By.TheVariants as by
use Rattle.irc_effects.specs.declared.effect.Target.{Target}
use Rattle.irc_effects.specs.declared.effect.Target.TheVariants as target
use Rattle.irc_effects.specs.declared.effect.Effect.{Effect}
use Rattle.irc_effects.specs.declared.effect.Effect.TheVariants.{AddUser, Rename, Quit, Join, Part}
use Rattle.irc_effects.specs.declared.effect.Effect.TheVariants.{Kick, ChangeModes, SetTopic, Say}
use Rattle.irc_effects.specs.declared.effect.Effect.TheVariants.{Invite, ChangeUser}
use Rattle.irc_effects.specs.Room.{Room}
use Rattle.irc_effects.specs.Limits.{IsCarriedText, IsChangeWithin, IsUserWithin}
use Rattle.irc_effects.specs.Seen.{full_sender, names_member}

-- a nickname that a user has, spelled as that user has it
abbrev pub IsStoredNick : Room → List ℕ → Type 0
IsStoredNick room nick =
    option_map (λ (user : User). user.nick) (row room.users (key nick)) ≡ Some nick

-- the name of a channel that is there, spelled as it is stored
abbrev pub IsStoredChannel : Room → List ℕ → Type 0
IsStoredChannel room name =
    option_map (λ (channel : Channel). channel.name) (row room.channels (key name)) ≡ Some name

-- a name for the channel that was found under it, if one was: spelled as that one is, else any name
-- by the rule
abbrev pub IsNameFor : List ℕ → Option Channel → Type 0
IsNameFor name None = IsChannel name
IsNameFor name (Some channel) = channel.name ≡ name

-- the name of a channel that is there, as stored, or of one that could be made
abbrev pub IsChannelOrNew : Room → List ℕ → Type 0
IsChannelOrNew room name = IsNameFor name (row room.channels (key name))

-- Who comes is told whole by the line that introduces it. What it has set beside that is told by
-- changes of its own.
pub record IsSentUser (user : User) : Type 0 where
  pub within : IsUserWithin user
  pub whole : as_introduced user ≡ user

pub record IsSentRename (room : Room) (nick new : List ℕ) : Type 0 where
  pub nick_stored : IsStoredNick room nick
  pub new_named : IsNick new

pub record IsSentQuit (room : Room) (nick text : List ℕ) : Type 0 where
  pub nick_stored : IsStoredNick room nick
  pub text_within : IsCarriedText text

pub record IsSentJoin (room : Room) (nick channel : List ℕ) : Type 0 where
  pub nick_stored : IsStoredNick room nick
  pub channel_named : IsChannelOrNew room channel

pub record IsSentPart (room : Room) (nick channel text : List ℕ) : Type 0 where
  pub nick_stored : IsStoredNick room nick
  pub channel_stored : IsStoredChannel room channel
  pub text_within : IsCarriedText text

pub record IsSentKick (room : Room) (by channel nick text : List ℕ) : Type 0 where
  pub by_stored : IsStoredNick room by
  pub channel_stored : IsStoredChannel room channel
  pub nick_stored : IsStoredNick room nick
  pub text_within : IsCarriedText text

-- the parameter of a change: behind o and v a nickname as stored, else bytes that a line can carry
abbrev pub IsSentWord : Room → Bool → List ℕ → Type 0
IsSentWord room true word = IsStoredNick room word
IsSentWord room false word = IsCarried word

abbrev pub IsSentChange : Room → ModeChange → Type 0
IsSentChange room change = IfSome change.word (IsSentWord room (names_member change.letter))

pub record AreSentChanges (room : Room) (by channel : List ℕ)
    (changes : List ModeChange) : Type 0 where
  pub by_stored : IsStoredNick room by
  pub channel_stored : IsStoredChannel room channel
  pub changes_readable : AreReadable changes
  pub words_sent : AllByRecursion (IsSentChange room) changes

pub record IsSentTopic (room : Room) (by channel text : List ℕ) : Type 0 where
  pub by_stored : IsStoredNick room by
  pub channel_stored : IsStoredChannel room channel
  pub text_within : IsCarriedText text

-- whom a text is for
abbrev pub IsSentTarget : Room → Target → Type 0
IsSentTarget room (target.User nick) = IsStoredNick room nick
IsSentTarget room (target.Channel channel) = IsStoredChannel room channel

abbrev pub target_word : Target → List ℕ
target_word (target.User nick) = nick
target_word (target.Channel channel) = channel

-- the parts of the line for clients that a user's text is
abbrev pub said_parts : User → Bool → Target → List ℕ → Written
said_parts user notice to text = record {
  sender = full_sender user;
  command = if notice then codes "NOTICE" else codes "PRIVMSG";
  middle = target_word to ∷ [];
  last = Some text;
}

-- A text, perhaps empty, that is so short that no server has to cut the line for clients. The line
-- for servers is shorter.
pub record IsSentText (room : Room) (by : List ℕ) (notice : Bool) (to : Target)
    (text : List ℕ) : Type 0 where
  pub by_stored : IsStoredNick room by
  pub target_stored : IsSentTarget room to
  pub text_carried : IsCarried text
  pub line_fits : IfSome (row room.users (key by))
      (λ user. length (joined_text (said_parts user notice to text)) ≤ max_line)

pub record IsSentInvite (room : Room) (by nick channel : List ℕ) : Type 0 where
  pub by_stored : IsStoredNick room by
  pub nick_stored : IsStoredNick room nick
  pub channel_named : IsChannelOrNew room channel

pub record IsSentUserChange (room : Room) (nick : List ℕ) (change : UserChange) : Type 0 where
  pub nick_stored : IsStoredNick room nick
  pub keeps : IsChangeWithin change

abbrev pub IsSendable : Room → Effect → Type 0
IsSendable room (AddUser user) = IsSentUser user
IsSendable room (Rename nick new) = IsSentRename room nick new
IsSendable room (Quit nick text) = IsSentQuit room nick text
IsSendable room (Join nick channel op) = IsSentJoin room nick channel
IsSendable room (Part nick channel text) = IsSentPart room nick channel text
IsSendable room (Kick by channel nick text) = IsSentKick room by channel nick text
IsSendable room (ChangeModes (by.User nick) channel changes) =
    AreSentChanges room nick channel changes
IsSendable room (ChangeModes by.Home channel changes) = ⊥
IsSendable room (SetTopic (by.User nick) channel text) = IsSentTopic room nick channel text
IsSendable room (SetTopic by.Home channel text) = ⊥
IsSendable room (Say by notice to text) = IsSentText room by notice to (text.items)
IsSendable room (Invite by nick channel) = IsSentInvite room by nick channel
IsSendable room (ChangeUser nick change) = IsSentUserChange room nick change
