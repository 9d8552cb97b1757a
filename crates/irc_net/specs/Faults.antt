-- Why what is given to a network is not taken, in the order in which causes are looked for: by what
-- is there alone.
use Rattle.std.specs.Prelude.{Bool, true, false, Option, Some, if◌then◌else◌}
use Rattle.std.specs.Option.{option_map}
use Rattle.irc_relay.specs.Links.{Name}
use Rattle.irc_world.specs.Refused.{Refusal, link_refused, no_such_client, no_such_server}
use Rattle.irc_world.specs.Refused.{not_linked}
use Rattle.irc_world.specs.Stepping.{Item}
use Rattle.irc_net.specs.declared.fault.NetFault.{NetFault}
use Rattle.irc_net.specs.declared.fault.NetFault.TheVariants as fault
use Rattle.irc_network.specs.ByteNetwork.{ByteNetwork, is_byte_rest}
use Rattle.irc_network.specs.Network.{Network, node_view}
pub use Rattle.irc_network.specs.Refusing.{are_agreed, fault_at_rest, way_fault}

-- a refusal as the caller is told of it
abbrev pub fault_by : Refusal → NetFault
fault_by no_such_server = fault.NoSuchServer
fault_by no_such_client = fault.NoSuchClient
fault_by not_linked = fault.NotLinked
fault_by link_refused = fault.LinkRefused

-- Nothing is taken while a byte is on its way, or a part of a line has come somewhere.
unfoldable pub item_fault : ByteNetwork → Item → Option NetFault
item_fault net item = if is_byte_rest net then option_map fault_by (fault_at_rest net.network item)
    else Some fault.NotAtRest

-- bytes come between two servers that are linked, at rest or not
unfoldable pub deliver_fault : ByteNetwork → Name → Name → Option NetFault
deliver_fault net from to = option_map fault_by (way_fault net.network from to)

-- whether two servers are there, and agree on all channels that both have
abbrev pub do_agree : Network → Name → Name → Bool
do_agree net one other = are_agreed (node_view net one) (node_view net other)

-- a refusal is the answer to a step; want of memory is none
abbrev pub is_refusal : NetFault → Bool
is_refusal fault.Memory = false
is_refusal fault.Failed = false
is_refusal other = true
