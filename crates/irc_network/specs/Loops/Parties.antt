-- A server that is to be an end of a link, as the code has it.
use Rattle.std.specs.Prelude.{◌≡◌, ◌<◌, ℕ, Bool, Option, Some, None, length}
use Rattle.std.specs.Option.{option_and_then}
use Rattle.irc_forest.specs.Forests.{name_at}
use Rattle.irc_relay.specs.Links.{Name}
use Rattle.irc_network.specs.Node.{kept_for}
use Rattle.irc_stage.specs.View.{View}
use Rattle.irc_network.specs.declared.refusing.Party.{Party}
use Rattle.irc_world.specs.Refused.{Refusal, are_equal}
use Rattle.irc_world.specs.World.{home_in}
use Rattle.irc_network.specs.Network.{Network, Node, node_of, node_view}
use Rattle.irc_network.specs.Refusing.{link_fault}

-- the server that a client has connected to
abbrev pub home_node : Network → ℕ → Option Node
home_node net client = option_and_then (node_of net) (home_in net.homes client)

-- why the servers of two names are not linked
abbrev pub linking_fault : Network → Name → Name → Option Refusal
linking_fault net near far = link_fault net near far (node_view net near) (node_view net far)

abbrev pub parties_fault : Network → Party → Party → Option Refusal
parties_fault net one other = linking_fault net one.name.now other.name.now

-- whether two servers keep one password for each other
abbrev pub have_one_password : Party → Party → Bool
have_one_password one other =
    are_equal (kept_for one.node.now other.name.now) (kept_for other.node.now one.name.now)

-- it is the server of this name, and this is its room
pub record IsPartyOf (net : Network) (name : Name) (party : Party) : Type 0 where
  pub view : View
  pub is_view : node_view net name ≡ Some view
  pub named : party.name.now ≡ name
  pub within : party.place < length net.names
  pub place : name_at net.names party.place ≡ name
  pub server : party.node.now.server ≡ Some view
  pub room : party.room.now.room ≡ view.room

abbrev pub IsParty : Network → Name → Option Party → Type 0
IsParty net name None = node_view net name ≡ None
IsParty net name (Some party) = IsPartyOf net name party
