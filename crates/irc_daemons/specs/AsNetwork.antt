-- Engines at wires, as a network whose links carry bytes and to which items were given; and how
-- such a network goes on.
use Rattle.std.specs.Prelude.{◌≡◌, ℕ, ◌++◌, true, is_some, Some, None, List, [], ◌∷◌, length}
use Rattle.std.specs.FinMap.{get}
use Rattle.std.specs.List.{slice_get}
use Rattle.irc_relay.specs.Links.{Name}
use Rattle.irc_relay.specs.Relay.{IsFront}
use Rattle.irc_stage.specs.View.{View}
use Rattle.irc_world.specs.Stepping.{Item}
use Rattle.irc_world.specs.WithinLimits.{IsItemWithin}
use Rattle.irc_world.specs.World.{home_in}
use Rattle.irc_network.specs.Network.{begun}
use Rattle.irc_network.specs.ByteNetwork.{ByteNetwork, bytes_come, item_given}
use Rattle.irc_network.specs.Whole.{has_way}
use Rattle.irc_net.specs.Faults.{item_fault}
use Rattle.irc_engine.specs.declared.kind.ConnectionKind.TheVariants as kinds
use Rattle.irc_engine.specs.Carrying.{open_kind_at}
use Rattle.irc_engine.specs.Running.{Moment}
use Rattle.irc_engine.specs.EngineView.{EngineView}
use Rattle.irc_daemons.specs.AsBytes.{IsAsBytes}
use Rattle.irc_daemons.specs.Daemons.{AreJoined, Daemons, connection_at}
use Rattle.irc_daemons.specs.Receiving.{IsReceived, bytes_received}

-- ---- how a network goes on

-- Items are given to it, none of which is refused, and bytes come in between.
pub data LeadsTo (old : ByteNetwork) : List Item → ByteNetwork → Type 0 where
  no_more : LeadsTo old [] old
  is_given : (before : List Item) (item : Item) (between : ByteNetwork)
      → LeadsTo old before between → item_fault between item ≡ None → IsItemWithin item
      → LeadsTo old (before ++ item ∷ []) (item_given item between).state
  has_come : (items : List Item) (from to count : ℕ) (between : ByteNetwork)
      → LeadsTo old items between → has_way between.network from to ≡ true
      → LeadsTo old items (bytes_come from to count (begun between)).state

-- ---- clients

-- each client of an engine's server is an open connection
abbrev pub AreClientsOpen : {W : Type 0} → Moment W → Type 0
AreClientsOpen now = (view : View) (conn : ℕ) → now.server ≡ Some view
    → is_some (get view.clients conn) ≡ true
    → open_kind_at (now.connections conn) ≡ Some kinds.Client

abbrev pub AllClientsOpen : {W : Type 0} → Daemons W → Type 0
AllClientsOpen {W} daemons = (place : ℕ) (engine : EngineView W)
    → slice_get daemons.engines place ≡ Some engine → AreClientsOpen engine.now

-- As many clients have come as to the network, and each has its seat at its home.
pub record AreSeated {W : Type 0} (names : List Name) (daemons : Daemons W)
    (net : ByteNetwork) : Type 0 where
  pub names_are : names ≡ net.network.names
  pub came : daemons.came ≡ length net.network.homes
  pub inboxes : length net.network.received ≡ length net.network.homes
  pub home : (place client conn : ℕ) → daemons.seats place client ≡ Some conn
      → slice_get names place ≡ home_in net.network.homes client
  pub seat : (place client conn : ℕ) → daemons.seats place client ≡ Some conn
      → is_some (home_in net.network.homes client) ≡ true

-- What was written to a client, with what its outbox holds, is what it has received in the network;
-- where its connection is there no more, what was written is a front of that.
pub record AreReceived {W : Type 0} (daemons : Daemons W) (net : ByteNetwork) : Type 0 where
  pub there : (place client conn : ℕ) → daemons.seats place client ≡ Some conn
      → is_some (connection_at daemons place conn) ≡ true → IsReceived daemons net place client conn
  pub front : (client : ℕ) → IsFront (daemons.written client) (bytes_received net.network client)

-- ---- all of it

pub record IsAsNetwork {W : Type 0} (names : List Name) (daemons : Daemons W)
    (net : ByteNetwork) : Type 0 where
  pub are_joined : AreJoined daemons
  pub as_bytes : IsAsBytes daemons net
  pub clients_open : AllClientsOpen daemons
  pub are_seated : AreSeated names daemons net
  pub are_received : AreReceived daemons net

-- The network has gone on by these items, and the daemons are as the one that it has come to.
pub record HasFollowed {W : Type 0} (names : List Name) (items : List Item) (net : ByteNetwork)
    (daemons : Daemons W) : Type 0 where
  pub last : ByteNetwork
  pub leads : LeadsTo net items last
  pub is_as : IsAsNetwork names daemons last
