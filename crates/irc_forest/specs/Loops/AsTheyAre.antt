-- Whether two halves agree, asked of the rooms as they are, before anybody has quit.
use Rattle.std.specs.Prelude.{ℕ, Bool, true, ◌&&◌, List, if◌then◌else◌}
use Rattle.std.specs.Option.{option_map_or, is_none}
use Rattle.std.specs.List.{list_any}
use Rattle.std.specs.FinMap.{entries}
use Rattle.irc_names.specs.Tables.{row}
use Rattle.irc_channels.specs.declared.channel.Channel.{Channel}
use Rattle.irc_channels.specs.declared.flags.Flags.{Flags}
use Rattle.irc_room.specs.Room.{Room}
use Rattle.irc_merge.specs.Agreeing.{are_alike}

-- a member stays where nobody has its nickname in the other half
abbrev pub survives : Room → List ℕ × Flags → Bool
survives other member = is_none (row other.users member.0)

-- a channel is left where some member stays
abbrev pub is_left : Room → Channel → Bool
is_left other channel = list_any (survives other) (entries channel.members)

-- two channels are alike, if each of them is left in its half
abbrev pub alike_if_left : Room → Room → Channel → Channel → Bool
alike_if_left one other here there = if is_left other here && is_left one there
    then are_alike here there else true

-- a channel of the one half is alike with that of the other, if both are left
abbrev pub agrees_on : Room → Room → List ℕ × Channel → Bool
agrees_on one other e = option_map_or (alike_if_left one other e.1) (row other.channels e.0) true
