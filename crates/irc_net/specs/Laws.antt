-- What holds of networks, and of what their calls answer.
use Rattle.std.specs.Prelude.{◌≡◌, ℕ, Bool, None, Ok, List, [], ◌∷◌, ◌++◌}
use Rattle.irc_relay.specs.Links.{Name}
use Rattle.irc_routes.specs.declared.programs.Programs.{Programs}
use Rattle.irc_world.specs.Stepping.{Item}
use Rattle.irc_world.specs.WithinLimits.{IsItemWithin}
use Rattle.irc_items.specs.SetUp.{settings_of, IsNew}
use Rattle.irc_server.specs.declared.config.Config.{Config}
use Rattle.irc_network.specs.ByteNetwork.{ByteNetwork, bytes_come, item_given}
use Rattle.irc_network.specs.Whole.{no_pipes}
use Rattle.irc_net.specs.declared.answer.Answer.{Answer}
use Rattle.irc_net.specs.Calls.{BytesTaken, IsDelivered, IsGiven, IsSettled, NetView, Settles}
use Rattle.irc_net.specs.Calls.{standing}
use Rattle.irc_net.specs.Faults.{item_fault}
use Rattle.irc_net.specs.Making.{AreSettingsOf, IsMadeOf}
use Rattle.irc_net.specs.OneRoom.{IsKeptSound, IsOwed}
use Rattle.irc_net.specs.Running.{HasRun, IsOneRoomOf, SettlesOnce}
use Rattle.irc_network.specs.Network.{Network, Receipt, begun, lines_of_client, received_by}
use Rattle.irc_network.specs.Views.{receipts_of}

-- ---- what is answered

-- Each client has received just its lines among these, behind all that it had.
abbrev pub HasReceived : ByteNetwork → ByteNetwork → List Receipt → Type 0
HasReceived old new receipts = (client : ℕ) → received_by new.network client
    ≡ received_by old.network client ++ lines_of_client client receipts

-- What a call answers is what clients have received by it.
pub record AnswersAreReceived : Type 0 where
  pub given : (old new : NetView) (item : Item) (answer : Answer) → IsGiven old item (Ok answer) new
      → HasReceived old.network new.network (receipts_of answer.lines.items)
  pub taken : (old new : NetView) (from to : Name) (count taken : ℕ) (receipts : List Receipt)
      → BytesTaken old from to count (Ok (taken, receipts)) new
      → HasReceived old.network new.network receipts
  pub delivered : (old new : NetView) (from to : Name) (was_taken : Bool) (receipts : List Receipt)
      → IsDelivered old from to (Ok (was_taken, receipts)) new
      → HasReceived old.network new.network receipts
  pub settled : (old new : NetView) (counted : ℕ) (receipts : List Receipt)
      → IsSettled old (Ok (counted, receipts)) new → HasReceived old.network new.network receipts

-- ---- how servers are set up, and what was given

-- servers as their configurations have them, and no item yet
pub record BeginsSetUp (programs : Name → Programs) (configs : List Config)
    (net : ByteNetwork) : Type 0 where
  pub settings : AreSettingsOf programs configs (settings_of net.network)
  pub items_are : net.network.items ≡ []

-- servers are set up as they were, and these are the items of which the network tells
pub record StaysSetUp (old new : ByteNetwork) (items : List Item) : Type 0 where
  pub settings : settings_of new.network ≡ settings_of old.network
  pub items_are : new.network.items ≡ items

-- Servers are set up by the configurations that a network is made of, and stay so, whatever is
-- given, comes or settles. An item that is given stands behind those before it, and nothing else
-- changes them.
pub record SettingsStay : Type 0 where
  pub made : (programs : Name → Programs) (configs : List Config) (net : ByteNetwork)
      → IsMadeOf programs configs net → BeginsSetUp programs configs net
  pub given : (net : ByteNetwork) (item : Item)
      → StaysSetUp net (item_given item net).state (net.network.items ++ item ∷ [])
  pub come : (net : ByteNetwork) (from to count : ℕ)
      → StaysSetUp net (bytes_come from to count (begun net)).state net.network.items
  pub settled : (net last : ByteNetwork) (counted : ℕ) (receipts : List Receipt)
      → Settles net counted receipts (standing last) → StaysSetUp net last net.network.items

-- ---- what is kept

-- A new network is sound, and it stays so by each item that is taken, by bytes that come, and as it
-- settles.
pub record StaysKept : Type 0 where
  pub new : (net : Network) → IsNew net → IsKeptSound (no_pipes net)
  pub given : (net : ByteNetwork) (item : Item) → IsKeptSound net → item_fault net item ≡ None
      → IsItemWithin item → IsKeptSound (item_given item net).state
  pub come : (net : ByteNetwork) (from to count : ℕ) → IsKeptSound net
      → IsKeptSound (bytes_come from to count (begun net)).state
  pub settled : (net last : ByteNetwork) (counted : ℕ) (receipts : List Receipt) → IsKeptSound net
      → Settles net counted receipts (standing last) → IsKeptSound last

-- and it does settle
abbrev pub EachSettles : Type 0
EachSettles = (net : ByteNetwork) → IsKeptSound net → SettlesOnce net

-- What a client has received of a network that is kept so is what it is owed there.
abbrev pub KeptIsOwed : Type 0
KeptIsOwed = (net : ByteNetwork) (client : ℕ) → IsKeptSound net
    → IsOwed (standing net) client (received_by net.network client)

-- ---- all of it

-- Whatever a network of some configurations has run to is kept sound, whichever of its servers have
-- what programs expect.
abbrev pub EveryRunIsKept : Type 0
EveryRunIsKept =
    (programs : Name → Programs) (configs : List Config) (items : List Item) (net : NetView)
    → HasRun programs configs items net → IsKeptSound net.network

-- Whatever was given to a network of some configurations, and however lines were delivered, it is
-- one room. Some servers may have what programs expect, and others not.
abbrev pub EveryNetworkIsOneRoom : Type 0
EveryNetworkIsOneRoom =
    (programs : Name → Programs) (configs : List Config) (items : List Item) (net : NetView)
    → HasRun programs configs items net → IsOneRoomOf programs configs items net
