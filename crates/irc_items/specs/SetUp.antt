-- What the servers of a network are configured to be, as it is read off them; and what is so of
-- each of them from the beginning.
use Rattle.std.specs.Prelude.{◌≡◌, ◌≤◌, true, Option, Some, List, [], map, count_by, length}
use Rattle.std.specs.Prelude.{unwrap_or}
use Rattle.std.specs.List.{filter_map, AllByRecursion}
use Rattle.std.specs.FinMap.{empty}
use Rattle.std.specs.Option.{option_map}
use Rattle.irc_names.specs.Names.{IsServer}
use Rattle.irc_link_words.specs.Passwords.{is_password}
use Rattle.irc_relay.specs.Distances.{IsAmong}
use Rattle.irc_relay.specs.Links.{Name, same}
use Rattle.irc_room.specs.Laws.{no_room}
use Rattle.irc_routes.specs.About.{IsAbout, says_nothing}
use Rattle.irc_routes.specs.Known.{Known, alone_known}
use Rattle.irc_routes.specs.Limits.{max_servers}
use Rattle.irc_stage.specs.View.{KnownPeer, View, new_view}
use Rattle.irc_world.specs.World.{Setting}
use Rattle.irc_network.specs.Network.{Network, Node, node_view}

-- ---- a server as it is there

-- what is read of a name that is no server's: it knows nobody, and nobody is there
abbrev pub no_view : View
no_view = new_view (alone_known [] says_nothing) []

abbrev pub view_at : Network → Name → View
view_at net server = unwrap_or (node_view net server) no_view

-- what each server knows of the others
abbrev pub routes_in : Network → Name → Known
routes_in net server = (view_at net server).routes

-- ---- its configuration

-- how a server is set up, as its own view has it
abbrev pub setting_now : View → Setting
setting_now view = record {
  name = view.routes.name;
  about = view.routes.about;
  peers = view.peers;
}

-- none where no server is at the node
abbrev pub setting_at : Node → Option Setting
setting_at node = option_map setting_now node.server

abbrev pub settings_of : Network → List Setting
settings_of net = filter_map setting_at net.nodes

-- the name of the server of a node, where one is there
abbrev pub named_at : Node → Option Name
named_at node = option_map (λ (view : View). view.routes.name) node.server

-- a password that both ends of a link may give
abbrev pub HasPassword : KnownPeer → Type 0
HasPassword peer = is_password peer.password ≡ true

-- what a server says of itself, and the passwords that it keeps, are such as can be told, and links
-- tell it who is away
pub record IsConfigured (view : View) : Type 0 where
  pub name : IsServer view.routes.name
  pub about : IsAbout view.routes.about
  pub told_away : view.routes.about.tells_away ≡ true
  pub passwords : AllByRecursion HasPassword view.peers

-- Each server is there under its name, no two have one name, and they are not too many.
pub record IsSetUp (net : Network) : Type 0 where
  pub named : map named_at net.nodes ≡ map Some net.names
  pub once : (server : Name) → IsAmong net.names server → count_by (same server) net.names ≡ 1
  pub few : length net.names ≤ max_servers
  pub configured : (server : Name) → IsAmong net.names server → IsConfigured (view_at net server)

-- ---- as it begins

-- no server knows another, or has a link or a client
pub record IsNewServer (view : View) : Type 0 where
  pub no_rows : view.routes.rows ≡ empty
  pub no_ends : view.ends ≡ empty
  pub no_clients : view.clients ≡ empty
  pub nobody : view.room ≡ no_room

-- nothing was given, and no way goes from one server to another
pub record IsNew (net : Network) : Type 0 where
  pub set_up : IsSetUp net
  pub servers : (server : Name) → IsAmong net.names server → IsNewServer (view_at net server)
  pub queues : AllByRecursion (λ (node : Node). node.queues ≡ empty) net.nodes
  pub links : net.links ≡ []
  pub homes : net.homes ≡ []
  pub received : net.received ≡ []
  pub items : net.items ≡ []
  pub taken : net.taken ≡ 0
