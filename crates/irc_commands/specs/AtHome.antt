-- What a line does at its user's server, which keeps the invitations of its own users alone, is
-- what it does in the whole room.
use Rattle.std.specs.Prelude.{◌≡◌, ℕ, true, List}
use Rattle.irc_names.specs.Fold.{key}
use Rattle.irc_line.specs.Messages.{Parsed}
use Rattle.irc_room.specs.Room.{Room, IsWellFormed}
use Rattle.irc_room.specs.Invitations.{is_at, of_home}
use Rattle.irc_routes.specs.Place.{Place}
use Rattle.irc_acts.specs.OtherInvitations.{AreAlikeFor}
use Rattle.irc_commands.specs.declared.pending.Pending.{Pending}
use Rattle.irc_commands.specs.Decide.{decide}
use Rattle.irc_commands.specs.Register.{register}

-- a room, and what a server has of it, are alike for who is connected to that server
abbrev pub HomeIsAlikeForItsOwn : Type 0
HomeIsAlikeForItsOwn =
    (home : List ℕ) (room : Room) (who : List ℕ) → is_at home room.users (key who) ≡ true
    → AreAlikeFor who room (of_home home room)

abbrev pub DecidedAtHome : Type 0
DecidedAtHome =
    (home : List ℕ) (room : Room) (place : Place) (who : List ℕ) (message : Parsed)
    → IsWellFormed room → is_at home room.users (key who) ≡ true
    → decide (of_home home room) place who message ≡ decide room place who message

-- A connection that is not registered is not in the room. What its line does depends on nothing of
-- it but the users.
abbrev pub RegisteringByUsers : Type 0
RegisteringByUsers = (room other : Room) (place : Place) (pending : Pending) (message : Parsed)
    → room.users ≡ other.users
    → register room place pending message ≡ register other place pending message

abbrev pub RegisteringAtHome : Type 0
RegisteringAtHome =
    (home : List ℕ) (room : Room) (place : Place) (pending : Pending) (message : Parsed)
    → register (of_home home room) place pending message ≡ register room place pending message
