-- The network of a script, before anything is asked for.
use Rattle.std.specs.Prelude.{ℕ, Bool, true, false, Option, Some, None, List, [], ◌∷◌, codes, map}
use Rattle.std.specs.Prelude.{if◌then◌else◌}
use Rattle.std.specs.Cmp.Lexicographic.{slice_cmp}
use Rattle.std.specs.FinMap.{empty}
use Rattle.std.specs.List.{filter_map}
use Rattle.std.specs.Ordering.{nat_cmp}
use Rattle.std.specs.declared.cmp.Ordering.{Ordering}
use Rattle.std.specs.declared.cmp.Ordering.TheVariants.{Greater}
use Rattle.irc_net.specs.ByteNetwork.{ByteNetwork}
use Rattle.irc_net.specs.Whole.{no_pipes}
use Rattle.irc_net.specs.Network.{Network, Node}
use Rattle.irc_relay.specs.Links.{Name, same}
use Rattle.irc_room.specs.Laws.{no_room}
use Rattle.irc_routes.specs.About.{About, says, serves}
use Rattle.irc_routes.specs.declared.programs.Programs.TheVariants.{Off}
use Rattle.irc_routes.specs.Known.{alone_known}
use Rattle.irc_net.specs.View.{KnownPeer, View}
use Rattle.irc_net.specs.World.{Setting}

-- the password that any two servers of a script keep for each other
abbrev pub script_password : List ℕ
script_password = codes "pw"

-- another server is a peer
abbrev pub peer_of : Name → Name → Option KnownPeer
peer_of server other =
    if same other server then None else Some (record { name = other; password = script_password })

-- the peers of one of these servers: all others
abbrev pub peers_for : Name → List Name → List KnownPeer
peers_for server names = filter_map (peer_of server) names

-- the texts of each server of a script
abbrev pub script_texts : About
script_texts = says (codes "Test server") (codes "2024-01-01")

-- what each says of itself: links tell it who is away, and its clients have the profile alone
abbrev pub script_about : About
script_about = serves Off script_texts

-- how the server of a name is set up
abbrev pub script_setting : List Name → Name → Setting
script_setting names server = record {
  name = server;
  about = script_about;
  peers = peers_for server names;
}

-- one of these servers: no link, and nobody connected
abbrev pub first_view : List Name → Name → View
first_view names server = record {
  routes = alone_known server script_about;
  peers = peers_for server names;
  ends = empty;
  clients = empty;
  room = no_room;
}

abbrev pub first_node : List Name → Name → Node
first_node names server = record { server = Some (first_view names server); queues = empty }

abbrev pub is_greater : Ordering → Bool
is_greater Greater = true
is_greater other = false

-- whether a name is greater than another
abbrev pub exceeds : Name → Name → Bool
exceeds name other = is_greater (slice_cmp nat_cmp name other)

-- a name goes in front of the first that is not less
abbrev pub name_put_in : Name → List Name → List Name
name_put_in name [] = name ∷ []
name_put_in name (first ∷ names) = if exceeds name first then first ∷ name_put_in name names
    else name ∷ first ∷ names

-- names in order
abbrev pub in_name_order : List Name → List Name
in_name_order [] = []
in_name_order (name ∷ names) = name_put_in name (in_name_order names)

-- how the servers with these names are set up, in their order
abbrev pub script_settings : List Name → List Setting
script_settings names = map (script_setting names) (in_name_order names)

-- the servers with which a script begins, in the order of their names
abbrev pub first_network : List Name → Network
first_network names = record {
  names = in_name_order names;
  nodes = map (first_node names) (in_name_order names);
  links = [];
  homes = [];
  received = [];
  items = [];
  taken = 0;
}

-- the network with which a script begins: nothing is on its way
abbrev pub first_net : List Name → ByteNetwork
first_net names = no_pipes (first_network names)
