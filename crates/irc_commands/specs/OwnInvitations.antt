-- A decision looks at its own user's invitations alone: whoever else is invited to channels, it is
-- the same.
use Rattle.std.specs.Prelude.{◌≡◌, ℕ, List}
use Rattle.irc_line.specs.Messages.{Parsed}
use Rattle.irc_room.specs.Room.{Room, IsWellFormed}
use Rattle.irc_routes.specs.Place.{Place}
use Rattle.irc_acts.specs.OtherInvitations.{AreAlikeFor}
use Rattle.irc_commands.specs.Decide.{decide}

-- the steps are the same, and so is whether the client stays
abbrev pub DecidedByOwnInvitations : Type 0
DecidedByOwnInvitations = (room other : Room) (place : Place) (who : List ℕ) (message : Parsed)
    → IsWellFormed room → AreAlikeFor who room other
    → decide room place who message ≡ decide other place who message
