-- What is decided can be done: each change of the room is possible when its turn comes.
use Rattle.std.specs.Prelude.{ℕ, List}
use Rattle.irc_line.specs.Messages.{Parsed}
use Rattle.irc_room.specs.Room.{Room, IsWellFormed}
use Rattle.irc_routes.specs.Place.{Place}
use Rattle.irc_acts.specs.Possible.{ArePossible}
use Rattle.irc_commands.specs.declared.pending.Pending.{Pending}
use Rattle.irc_commands.specs.Decide.{decide}
use Rattle.irc_commands.specs.Register.{register}

-- whatever a user's line is, a room does what is decided
abbrev pub DecidedIsPossible : Type 0
DecidedIsPossible =
    (room : Room) (place : Place) (who : List ℕ) (message : Parsed) → IsWellFormed room
    → ArePossible room (decide room place who message).steps

-- and so it is with a line of a connection that is not registered
abbrev pub RegisteringIsPossible : Type 0
RegisteringIsPossible = (room : Room) (place : Place) (pending : Pending) (message : Parsed)
    → IsWellFormed room
    → ArePossible room (register room place pending message).steps
