-- What the code's loop over changes of modes is at, where it changes the members: they are changed
-- apart from the modes of the channel, since these do not touch each other.
use Rattle.std.specs.Prelude.{ℕ, Bool, Option, Some, List, fold}
use Rattle.std.specs.Option.{option_map}
use Rattle.irc_names.specs.Fold.{key}
use Rattle.irc_names.specs.Tables.{Table, alter}
use Rattle.irc_channels.specs.declared.flags.Flags.{Flags}
use Rattle.irc_modes.specs.declared.modes.ModeChange.{ModeChange}
use Rattle.irc_modes.specs.declared.modes.ModeLetter.{ModeLetter}
use Rattle.irc_modes.specs.declared.modes.ModeLetter.TheVariants as letter

-- a member's flags with one of them set or cleared
abbrev pub flag_changed : Bool → ModeLetter → Flags → Flags
flag_changed plus letter.Operator flags = record flags { op = plus }
flag_changed plus letter.Voice flags = record flags { voice = plus }
flag_changed plus other flags = flags

-- what a change of a mode does to the members
abbrev pub members_changed : Bool → ModeLetter → Option (List ℕ) → Table Flags → Table Flags
members_changed plus letter.Operator (Some word) members =
    alter (key word) (option_map (flag_changed plus letter.Operator)) members
members_changed plus letter.Voice (Some word) members =
    alter (key word) (option_map (flag_changed plus letter.Voice)) members
members_changed plus other word members = members

abbrev pub members_step : Table Flags → ModeChange → Table Flags
members_step members change = members_changed change.plus change.letter change.word members

abbrev pub members_after : List ModeChange → Table Flags → Table Flags
members_after changes members = fold members_step members changes
