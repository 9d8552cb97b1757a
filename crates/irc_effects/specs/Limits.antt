-- The limits of a room: what each user and each channel in it keeps to (RFC 2812 sections 1.2, 1.3
-- and 2.3.1, RFC 2811 section 4).
use Rattle.std.specs.Prelude.{◌≡◌, ◌≢◌, ℕ, true, ⊤, Option, Some, List, []}
use Rattle.std.specs.List.{list_all, AllByRecursion}
use Rattle.std.specs.Option.{IfSome}
use Rattle.irc_line.specs.Carried.{is_carried, IsCarried}
use Rattle.irc_names.specs.Names.{IsNick, IsChannel, IsHost, IsServer}
use Rattle.irc_names.specs.Tables.{row}
use Rattle.irc_names.specs.UserTexts.{IsUserName, IsRealName, IsAway}
use Rattle.irc_users.specs.declared.user.User.{User}
use Rattle.irc_users.specs.declared.user_change.UserChange.{UserChange}
use Rattle.irc_users.specs.declared.user_change.UserChange.TheVariants.{Invisible, Away}
use Rattle.irc_channels.specs.Texts.{IsWords}
use Rattle.irc_modes.specs.ModesSet.{AreWithinLimits}
use Rattle.irc_modes.specs.declared.modes.ModeChange.{ModeChange}
use Rattle.irc_modes.specs.declared.modes.ModeLetter.{ModeLetter}
use Rattle.irc_modes.specs.declared.modes.ModeLetter.TheVariants as letter
use Rattle.irc_channels.specs.declared.channel.Channel.{Channel}
use Rattle.irc_effects.specs.declared.effect.Effect.{Effect}
use Rattle.irc_effects.specs.declared.effect.Effect.TheVariants.{AddUser, Rename, Join, ChangeModes}
use Rattle.irc_effects.specs.declared.effect.Effect.TheVariants.{SetTopic, ChangeUser}
use Rattle.irc_effects.specs.Room.{Room}

-- a topic, or the text of a quit, a part or a kick, that a line can carry
pub record IsCarriedText (text : List ℕ) : Type 0 where
  pub fits : IsWords text
  pub carried : IsCarried text

-- A user keeps to the rules of names. Its user name is not empty, since it is a word of the line
-- that tells another server of the user.
pub record IsUserWithin (user : User) : Type 0 where
  pub nick : IsNick user.nick
  pub name : IsUserName user.user
  pub name_some : user.user ≢ []
  pub host : IsHost user.host
  pub real_fits : IsRealName user.real
  pub real_carried : IsCarried user.real
  pub home : IsServer user.home
  pub away : IfSome user.set.away IsAway

-- A channel does so too. The rule of a ban's mask alone takes bytes that no line can carry.
pub record IsChannelWithin (channel : Channel) : Type 0 where
  pub name : IsChannel channel.name
  pub topic : IsCarriedText channel.topic
  pub modes : AreWithinLimits channel.modes
  pub bans_carried : list_all is_carried channel.modes.bans ≡ true

pub record IsWithinLimits (room : Room) : Type 0 where
  pub users : (fold : List ℕ) (user : User) → row room.users fold ≡ Some user → IsUserWithin user
  pub channels : (fold : List ℕ) (channel : Channel) → row room.channels fold ≡ Some channel
      → IsChannelWithin channel

-- the parameter of a change of a ban, which a channel keeps
abbrev pub IsBanCarried : ModeLetter → Option (List ℕ) → Type 0
IsBanCarried letter.Ban word = IfSome word IsCarried
IsBanCarried other word = ⊤

-- a change of a user's own: mode i has no limit, and who is back has no text
abbrev pub IsChangeWithin : UserChange → Type 0
IsChangeWithin (Invisible invisible) = ⊤
IsChangeWithin (Away text) = IfSome text IsAway

-- What an effect has to be so that a room stays within its limits, whoever does it: the names that
-- it brings keep their rules, and a line can carry the texts that are kept. A change whose
-- parameter breaks the rule of its letter changes nothing.
abbrev pub KeepsLimits : Effect → Type 0
KeepsLimits (AddUser user) = IsUserWithin user
KeepsLimits (Rename nick new) = IsNick new
KeepsLimits (Join nick channel op) = IsChannel channel
KeepsLimits (ChangeModes by channel changes) =
    AllByRecursion (λ (c : ModeChange). IsBanCarried c.letter c.word) changes
KeepsLimits (SetTopic by channel text) = IsCarriedText text
KeepsLimits (ChangeUser nick change) = IsChangeWithin change
KeepsLimits other = ⊤
