-- What is decided can be sent, where the room and the line keep to the limits.
use Rattle.std.specs.Prelude.{◌≢◌, ℕ, List, []}
use Rattle.std.specs.Option.{IfSome}
use Rattle.irc_line.specs.Carried.{IsCarried, AreLineWords}
use Rattle.irc_line.specs.Messages.{Parsed}
use Rattle.irc_names.specs.Names.{IsNick, IsHost, IsServer}
use Rattle.irc_names.specs.UserTexts.{IsUserName, IsRealName}
use Rattle.irc_room.specs.Limits.{IsWithinLimits}
use Rattle.irc_room.specs.Room.{Room, IsWellFormed}
use Rattle.irc_routes.specs.Place.{Place}
use Rattle.irc_acts.specs.Sendable.{AreSendable}
use Rattle.irc_commands.specs.declared.pending.Pending.{Pending}
use Rattle.irc_commands.specs.Decide.{decide}
use Rattle.irc_commands.specs.Register.{register}

-- whatever message was read from a line, each effect of it can be sent when its turn comes
abbrev pub DecidedIsSendable : Type 0
DecidedIsSendable =
    (room : Room) (place : Place) (who line : List ℕ) (message : Parsed) → IsWellFormed room
    → IsWithinLimits room → AreLineWords line message
    → AreSendable room (decide room place who message).steps

-- a user name that is one, and is some
pub record IsNamed (name : List ℕ) : Type 0 where
  pub clean : IsUserName name
  pub some : name ≢ []

-- what a connection has given keeps to the limits of what a user says of itself
pub record IsPendingWithin (pending : Pending) : Type 0 where
  pub nick : IfSome pending.nick IsNick
  pub name : IfSome pending.user IsNamed
  pub real_fits : IsRealName pending.real
  pub real_carried : IsCarried pending.real
  pub host : IsHost pending.host

-- then what it gives by a line does, and it is added as a user that other servers can be told of
abbrev pub RegisteringIsSendable : Type 0
RegisteringIsSendable =
    (room : Room) (place : Place) (pending : Pending) (line : List ℕ) (message : Parsed)
    → IsPendingWithin pending → IsServer place.name
    → AreLineWords line message
    → IsPendingWithin (register room place pending message).pending
    × AreSendable room (register room place pending message).steps
