-- What is decided does something: no change of the room leaves it as it is for want of a member, or
-- for one who is one already.
use Rattle.std.specs.Prelude.{ℕ, List}
use Rattle.irc_line.specs.Messages.{Parsed}
use Rattle.irc_room.specs.Room.{Room, IsWellFormed}
use Rattle.irc_routes.specs.Place.{Place}
use Rattle.irc_acts.specs.Doing.{AreDoing}
use Rattle.irc_commands.specs.declared.pending.Pending.{Pending}
use Rattle.irc_commands.specs.Decide.{decide}
use Rattle.irc_commands.specs.Register.{register}

-- whatever a user's line is, each effect of it does something when its turn comes
abbrev pub DecidedDoes : Type 0
DecidedDoes = (room : Room) (place : Place) (who : List ℕ) (message : Parsed) → IsWellFormed room
    → AreDoing room (decide room place who message).steps

-- and so it is with a line of a connection that is not registered
abbrev pub RegisteringDoes : Type 0
RegisteringDoes = (room : Room) (place : Place) (pending : Pending) (message : Parsed)
    → AreDoing room (register room place pending message).steps
