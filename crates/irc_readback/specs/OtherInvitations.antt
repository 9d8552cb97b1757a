-- What is written on a link and what is read there looks at no invitation. So a server, which has
-- those of its own users alone, writes and reads as it would by all of the room.
use Rattle.std.specs.Prelude.{◌≡◌, ℕ, List}
use Rattle.irc_line.specs.Messages.{Parsed}
use Rattle.irc_room.specs.effect.Effect.{Effect}
use Rattle.irc_room.specs.Invitations.{of_home}
use Rattle.irc_room.specs.OtherInvitations.{AreAlike}
use Rattle.irc_room.specs.Room.{Room}
use Rattle.irc_routes.specs.Known.{Known}
use Rattle.irc_link_reader.specs.Means.{means}
use Rattle.irc_link_writer.specs.Written.{wire}

-- an effect is written as one line in two rooms that are alike but for who is invited
abbrev pub AlikeWriteAlike : Type 0
AlikeWriteAlike = (room other : Room) (known : Known) (effect : Effect) → AreAlike room other
    → wire room known effect ≡ wire other known effect

-- and a line means there the same, or is refused for the same
abbrev pub AlikeMeanAlike : Type 0
AlikeMeanAlike = (room other : Room) (known : Known) (link : ℕ) (message : Parsed)
    → AreAlike room other
    → means room known link message ≡ means other known link message

-- what a server has of a room is written of as all of the room
abbrev pub WrittenAtHome : Type 0
WrittenAtHome = (home : List ℕ) (room : Room) (known : Known) (effect : Effect)
    → wire (of_home home room) known effect ≡ wire room known effect

-- and a line is read there as in all of the room
abbrev pub ReadAtHome : Type 0
ReadAtHome = (home : List ℕ) (room : Room) (known : Known) (link : ℕ) (message : Parsed)
    → means (of_home home room) known link message ≡ means room known link message
