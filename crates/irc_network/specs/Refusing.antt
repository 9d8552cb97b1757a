-- Why what is given to a network at rest is not taken, in the order in which causes are looked for:
-- by what is there alone.
use Rattle.std.specs.Prelude.{ℕ, Bool, false, not, ◌||◌, Option, Some, None, is_some, if◌then◌else◌}
use Rattle.std.specs.FinMap.{get}
use Rattle.std.specs.Option.{option_and_then, option_map_or}
use Rattle.irc_merge.specs.Agreeing.{agree}
use Rattle.irc_relay.specs.Links.{Name, joined}
use Rattle.irc_relay.specs.Links.{linked as are_linked}
use Rattle.irc_stage.specs.View.{View, password_for}
use Rattle.irc_world.specs.Refused.{Refusal, are_equal, link_refused, no_such_client}
use Rattle.irc_world.specs.Refused.{no_such_server, not_linked}
use Rattle.irc_world.specs.Stepping.{Item, connect, line, gone, link, cut}
use Rattle.irc_world.specs.World.{home_in}
use Rattle.irc_network.specs.Network.{Network, server_place, node_view}

-- whether a client is connected
abbrev pub has_client : ℕ → View → Bool
has_client client view = is_some (get view.clients client)

-- whether a client of this number is connected at its home
abbrev pub is_there : Network → ℕ → Bool
is_there net client = option_map_or (has_client client)
    (option_and_then (node_view net) (home_in net.homes client)) false

-- only a client that is connected says something, or goes
abbrev pub client_fault : Network → ℕ → Option Refusal
client_fault net client = if is_there net client then None else Some no_such_client

-- whether two servers keep one password for each other
abbrev pub are_peers : Name → Name → View → View → Bool
are_peers one other one_view other_view =
    are_equal (password_for one_view other) (password_for other_view one)

-- The two are in one part, or are no peers.
abbrev pub meeting_fault : Network → Name → Name → View → View → Option Refusal
meeting_fault net near far near_view far_view =
    if joined net.links near far || not (are_peers near far near_view far_view)
    then Some link_refused else None

-- that both are servers is looked at before what each holds of the other
abbrev pub link_fault : Network → Name → Name → Option View → Option View → Option Refusal
link_fault net near far (Some near_view) (Some far_view) =
    meeting_fault net near far near_view far_view
link_fault net near far near_view far_view = Some no_such_server

-- whoever has a place in the network is a server, linked or not
abbrev pub is_server : Network → Name → Bool
is_server net name = is_some (server_place net name)

-- a client connects to a server that is there
abbrev pub server_fault : Network → Name → Option Refusal
server_fault net server = if is_server net server then None else Some no_such_server

-- Two servers are not there, or no link is between them.
abbrev pub way_fault : Network → Name → Name → Option Refusal
way_fault net from to =
    if not (is_server net from) || not (is_server net to) then Some no_such_server
    else (if are_linked net.links from to then None else Some not_linked)

-- why an item is not taken by a network in which no line is on its way
abbrev pub fault_at_rest : Network → Item → Option Refusal
fault_at_rest net (connect server host) = server_fault net server
fault_at_rest net (line client bytes) = client_fault net client
fault_at_rest net (gone client) = client_fault net client
fault_at_rest net (link near far) = link_fault net near far (node_view net near) (node_view net far)
fault_at_rest net (cut near far) = way_fault net near far

-- Whether two servers are there, and agree. Nothing is refused for it.
abbrev pub are_agreed : Option View → Option View → Bool
are_agreed (Some one) (Some other) = agree one.room other.room
are_agreed one other = false
