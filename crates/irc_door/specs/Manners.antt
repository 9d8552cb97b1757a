-- What is written to a client in place of a text, by the manner of a door: in place of what refuses
-- a line CAP of it an answer (`Capabilities.antt`); in place of 422 the message of the day, where
-- there is one (`MessagesOfTheDay.antt`); any other text as programs expect it, where that is asked
-- for (`Turning.antt`); else the text itself.
use Rattle.std.specs.Prelude.{ℕ, Bool, true, false, ◌&&◌, Option, Some, None, List, [], ◌∷◌}
use Rattle.std.specs.Prelude.{is_none, nat_eq, if◌then◌else◌}
use Rattle.irc_door.specs.Capabilities.{cap_answers, refused_told, Asked}
use Rattle.irc_door.specs.declared.manner.Manner.{Manner}
use Rattle.irc_routes.specs.declared.programs.Programs.{Programs}
use Rattle.irc_routes.specs.declared.programs.Programs.TheVariants.{Off, On}
use Rattle.irc_door.specs.declared.motd.Motd.{Motd}
use Rattle.irc_door.specs.MessagesOfTheDay.{lines_of, message_told, missing_told, Told}
use Rattle.irc_door.specs.Turning.{turned, written}

abbrev pub written_usually : Programs → List ℕ → List (List ℕ)
written_usually Off line = line ∷ []
written_usually On line = written line (turned line)

abbrev pub written_or_told : Programs → List ℕ → (message : List (List ℕ)) → Option Told
    → List (List ℕ)
written_or_told programs line message None = written_usually programs line
written_or_told programs line message (Some told) = message_told told message

abbrev pub written_with : Programs → Option Motd → List ℕ → List (List ℕ)
written_with programs None line = written_usually programs line
written_with programs (Some motd) line =
    written_or_told programs line (lines_of motd) (missing_told line)

abbrev pub written_by : Manner → List ℕ → List (List ℕ)
written_by manner line = written_with manner.programs manner.motd line

-- the answer to a line CAP of this client, in place of what refuses it
abbrev pub written_or_answered : Manner → List ℕ → Asked → Option Told → List (List ℕ)
written_or_answered manner line asked None = written_by manner line
written_or_answered manner line asked (Some told) = cap_answers told asked

abbrev pub written_to : Manner → Option Asked → (conn : ℕ) → List ℕ → List (List ℕ)
written_to manner None conn line = written_by manner line
written_to manner (Some asked) conn line =
    if nat_eq asked.conn conn then written_or_answered manner line asked (refused_told line)
    else written_by manner line

-- nothing is asked for
abbrev pub is_off : Programs → Bool
is_off Off = true
is_off On = false

abbrev pub is_plain : Manner → Bool
is_plain manner = is_off manner.programs && is_none manner.motd
