-- The channels of a room by name: which calls are refused, and what the members of a channel are.
use Rattle.std.specs.Prelude.{◌≡◌, ℕ, ⊤, Bool, false, Option, Some, None, List, [], Result, IsTrue}
use Rattle.std.specs.Prelude.{IsOk, OnOk, unwrap_or, if◌then◌else◌}
use Rattle.std.specs.Option.{option_map, option_map_or}
use Rattle.std.specs.FinMap.{entries}
use Rattle.irc_names.specs.Fold.{key}
use Rattle.irc_names.specs.Tables.{Table, alter, row}
use Rattle.irc_channels.specs.declared.channel.Channel.{Channel}
use Rattle.irc_channels.specs.declared.flags.Flags.{Flags}
use Rattle.irc_channels.specs.declared.fault.ChannelsFault.{ChannelsFault}
use Rattle.irc_channels.specs.declared.fault.ChannelsFault.TheVariants.{NoSuchChannel, NotMember}
use Rattle.irc_channels.specs.declared.fault.ChannelsFault.TheVariants.{Memory}
use Rattle.irc_channels.specs.Channels.{has_member, joined, new_channel}

-- the members of the channel under a fold, in folded order; none where there is no channel
abbrev pub members_in : Option Channel → List (List ℕ × Flags)
members_in None = []
members_in (Some channel) = entries channel.members

-- why a change of the channel under a fold is refused
abbrev pub channel_fault : Option Channel → Option ChannelsFault
channel_fault None = Some NoSuchChannel
channel_fault (Some channel) = None

-- why a member does not leave the channel under a fold
abbrev pub leaving_fault : List ℕ → Option Channel → Option ChannelsFault
leaving_fault nick None = Some NoSuchChannel
leaving_fault nick (Some channel) = if has_member nick channel then None else Some NotMember

-- the same of the channel of a name
abbrev pub fault_at : Table Channel → List ℕ → Option ChannelsFault
fault_at channels name = channel_fault (row channels (key name))

abbrev pub leaving_fault_at : List ℕ → Table Channel → List ℕ → Option ChannelsFault
leaving_fault_at nick channels name = leaving_fault (key nick) (row channels (key name))

-- a channel with the fold that it is found under
abbrev pub entry_at : Table Channel → List ℕ → Option (List ℕ × Channel)
entry_at channels name = option_map (λ channel. (key name, channel)) (row channels (key name))

-- the row under a name that a user joins, which is made where there is none
abbrev pub joined_or_made : List ℕ → Bool → List ℕ → Option Channel → Option Channel
joined_or_made nick op name found = Some (joined (key nick) op (unwrap_or found (new_channel name)))

-- A call that goes well makes another row of the channel of a name.
abbrev pub Alters : Result (Unit {0}) ChannelsFault → List ℕ → (Option Channel → Option Channel)
    → Table Channel → Table Channel → Type 0
Alters result name change old new = OnOk result (new ≡ alter (key name) change old)

-- Where a channel of a name is there and is so, a call goes well.
abbrev pub GoesWellWhere : (Channel → Bool) → List ℕ → Table Channel
    → Result (Unit {0}) ChannelsFault → Type 0
GoesWellWhere is_so name old result = IsTrue (option_map_or is_so (row old (key name)) false)
    → IsOk result

-- A call is refused as is owed; where nothing is owed it may still be refused for want of memory.
abbrev pub IsOwedOrMemory : Option ChannelsFault → Option ChannelsFault → Type 0
IsOwedOrMemory (Some owed) given = given ≡ Some owed
IsOwedOrMemory None None = ⊤
IsOwedOrMemory None (Some given) = given ≡ Memory
