-- No line that a server writes to another is cut, by the limits (RFC 2812 section 2.3: 510 bytes
-- before CR LF).
use Rattle.std.specs.Prelude.{◌≡◌, ◌≤◌, ℕ, List}
use Rattle.std.specs.List.{AllByRecursion}
use Rattle.irc_line.specs.Carried.{AreCarriedParts}
use Rattle.irc_line.specs.Messages.{text}
use Rattle.irc_names.specs.Names.{IsServer}
use Rattle.irc_users.specs.declared.user.User.{User}
use Rattle.irc_modes.specs.declared.modes.ModeChange.{ModeChange}
use Rattle.irc_modes.specs.Readable.{AreReadable}
use Rattle.irc_room.specs.effect.By.TheVariants as by
use Rattle.irc_room.specs.effect.Effect.{Effect}
use Rattle.irc_room.specs.effect.Effect.TheVariants.{AddUser, ChangeModes, SetTopic}
use Rattle.irc_room.specs.Laws.{IsWhole, whole_text}
use Rattle.irc_room.specs.Limits.{IsCarriedText, IsUserWithin, IsWithinLimits}
use Rattle.irc_room.specs.Room.{Room}
use Rattle.irc_room.specs.Sendable.{IsSendable, IsSentChange, IsStoredChannel}
use Rattle.irc_routes.specs.Known.{Known}
use Rattle.irc_link_words.specs.Numbers.{max_number}
use Rattle.irc_link_writer.specs.Written.{next_distance, wire, written_token}

-- a user who keeps the limits, and whose server has a number and a distance that can be written
pub record IsToldUser (known : Known) (user : User) : Type 0 where
  pub within : IsUserWithin user
  pub number : written_token known user.home ≤ max_number
  pub distance : next_distance known user.home ≤ max_number

-- changes that a server itself makes of a channel that is there, as it does when it tells another
-- of the channel
pub record AreToldByServer (room : Room) (known : Known) (channel : List ℕ)
    (changes : List ModeChange) : Type 0 where
  pub named : IsServer known.name
  pub channel_stored : IsStoredChannel room channel
  pub changes_readable : AreReadable changes
  pub words_sent : AllByRecursion (IsSentChange room) changes

-- a topic that a server itself sets
pub record IsToldByServer (room : Room) (known : Known) (channel topic : List ℕ) : Type 0 where
  pub named : IsServer known.name
  pub channel_stored : IsStoredChannel room channel
  pub topic_within : IsCarriedText topic

-- what a server can tell another of: what can be sent, and changes that it makes itself
abbrev pub IsTellable : Room → Known → Effect → Type 0
IsTellable room known (AddUser user) = IsToldUser known user
IsTellable room known (ChangeModes by.Home channel changes) =
    AreToldByServer room known channel changes
IsTellable room known (SetTopic by.Home channel topic) = IsToldByServer room known channel topic
IsTellable room known other = IsSendable room other

-- the line of such an effect fits
abbrev pub ToldFitsItsLine : Type 0
ToldFitsItsLine = (room : Room) (known : Known) (effect : Effect) → IsWithinLimits room
    → IsTellable room known effect → IsWhole (wire room known effect)

-- so nothing of it was cut
abbrev pub ToldIsWhole : Type 0
ToldIsWhole = (room : Room) (known : Known) (effect : Effect) → IsWithinLimits room
    → IsTellable room known effect
    → text (wire room known effect) ≡ whole_text (wire room known effect)

-- and a line can carry each word of it
abbrev pub ToldIsCarried : Type 0
ToldIsCarried = (room : Room) (known : Known) (effect : Effect) → IsWithinLimits room
    → IsTellable room known effect → AreCarriedParts (wire room known effect)
