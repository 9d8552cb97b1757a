-- What each step makes of an answer of the room, by the names that it gives.
use Rattle.std.specs.Prelude.{ℕ, ◌+◌, ◌-◌, false, ◌&&◌, Option, Some, None, List, if◌then◌else◌}
use Rattle.irc_names.specs.Fold.{same}
use Rattle.irc_channels.specs.declared.flags.Flags.{Flags}
use Rattle.irc_room.specs.effect.Effect.TheVariants.{Join, Part, Kick}
use Rattle.irc_acts.specs.declared.act.Act.{Act}
use Rattle.irc_acts.specs.declared.act.Act.TheVariants.{Do}

-- the flags of a user in a channel
abbrev pub flags_by : List ℕ → List ℕ → Option Flags → Act → Option Flags
flags_by nick channel before (Do (Join who name op)) =
    if same name channel && same who nick then Some (record { op = op; voice = false }) else before
flags_by nick channel before (Do (Part who name text)) =
    if same name channel && same who nick then None else before
flags_by nick channel before (Do (Kick by name who text)) =
    if same name channel && same who nick then None else before
flags_by nick channel before act = before

-- how many members a channel has
abbrev pub members_by : List ℕ → ℕ → Act → ℕ
members_by channel before (Do (Join who name op)) =
    if same name channel then before + 1 else before
members_by channel before (Do (Part who name text)) =
    if same name channel then before - 1 else before
members_by channel before (Do (Kick by name who text)) =
    if same name channel then before - 1 else before
members_by channel before act = before

-- in how many channels a user is
abbrev pub channels_by : List ℕ → ℕ → Act → ℕ
channels_by nick before (Do (Join who name op)) = if same who nick then before + 1 else before
channels_by nick before (Do (Part who name text)) = if same who nick then before - 1 else before
channels_by nick before (Do (Kick by name who text)) = if same who nick then before - 1 else before
channels_by nick before act = before
