-- A network is one room: all that is promised of one that was made of some configurations,
-- whatever was done to it since.
use Rattle.std.specs.Prelude.{◌≡◌, ℕ, ◌≤◌, Bool, true, false, Ok, List, [], ◌∷◌, ◌++◌}
use Rattle.std.specs.Option.{option_map}
use Rattle.irc_items.specs.SetUp.{settings_of}
use Rattle.irc_items.specs.Sound.{most_of_last}
use Rattle.irc_relay.specs.Links.{Name}
use Rattle.irc_relay.specs.Relay.{IsFront}
use Rattle.irc_routes.specs.declared.programs.Programs.{Programs}
use Rattle.irc_server.specs.declared.config.Config.{Config}
use Rattle.irc_world.specs.Owed.{owed_by_network, world_of}
use Rattle.irc_world.specs.Refused.{refused}
use Rattle.irc_world.specs.Stepping.{Item}
use Rattle.irc_world.specs.WithinLimits.{IsItemWithin}
use Rattle.irc_world.specs.World.{Setting, new_world}
use Rattle.irc_network.specs.Network.{Receipt, received_by}
use Rattle.irc_network.specs.ByteNetwork.{ByteNetwork, is_byte_rest}
use Rattle.irc_net.specs.declared.answer.Answer.{Answer}
use Rattle.irc_net.specs.Calls.{BytesTaken, IsDelivered, IsGiven, IsSettled, NetView, Settles}
use Rattle.irc_net.specs.Calls.{standing}
use Rattle.irc_net.specs.Faults.{fault_by, item_fault}
use Rattle.irc_net.specs.Making.{AreSettingsOf, IsNetMade}
use Rattle.irc_net.specs.OneRoom.{IsOneRoomNet}

-- The network of these configurations, of whose servers these have what programs expect, has come to
-- this: these items were taken, one after another, and bytes came in between, as many as one likes
-- in whatever directions. What is refused changes nothing, and of a network for which memory ran out
-- nothing is said.
pub data HasRun (programs : Name → Programs) (configs : List Config) : List Item → NetView
    → Type 0 where
  made : {net : NetView} → IsNetMade programs configs (Ok net) → HasRun programs configs [] net
  given : {old new : NetView} {before items : List Item} {item : Item} {answer : Answer}
      → HasRun programs configs before old → IsItemWithin item → IsGiven old item (Ok answer) new
      → items ≡ before ++ item ∷ [] → HasRun programs configs items new
  taken : {old new : NetView} {items : List Item} {from to : Name}
      {count taken : ℕ} {receipts : List Receipt} → HasRun programs configs items old
      → BytesTaken old from to count (Ok (taken, receipts)) new → HasRun programs configs items new
  delivered : {old new : NetView} {items : List Item} {from to : Name}
      {was_taken : Bool} {receipts : List Receipt} → HasRun programs configs items old
      → IsDelivered old from to (Ok (was_taken, receipts)) new → HasRun programs configs items new
  settled : {old new : NetView} {items : List Item} {counted : ℕ} {receipts : List Receipt}
      → HasRun programs configs items old → IsSettled old (Ok (counted, receipts)) new
      → HasRun programs configs items new

-- Lines that are on their way come to their end: it can be settled.
pub record SettlesOnce (net : ByteNetwork) : Type 0 where
  pub counted : ℕ
  pub receipts : List Receipt
  pub last : ByteNetwork
  pub settles : Settles net counted receipts (standing last)

-- What each client has received is at every moment a front of what it is owed by these items in a
-- network of servers that are set up so, and at rest all of it; and it can come to rest. Its
-- settings, items, `front`, `all` and `settles` are README's sentence. No more lines were taken
-- since the last item than servers need at most to tell each other of it. At rest just that is
-- refused which the network as its people know it refuses, and for the same cause. IsOneRoomNet
-- says what servers have.
pub record IsOneRoomOf (programs : Name → Programs) (configs : List Config) (items : List Item)
    (net : NetView) : Type 0 where
  pub settings : List Setting
  pub are_settings : AreSettingsOf programs configs settings
  pub stay : settings_of net.network.network ≡ settings
  pub stands : net.failed ≡ false
  pub given : net.network.network.items ≡ items
  pub front : (client : ℕ)
      → IsFront (received_by net.network.network client) (owed_by_network settings items client)
  pub all : is_byte_rest net.network ≡ true → (client : ℕ)
      → received_by net.network.network client ≡ owed_by_network settings items client
  pub settles : SettlesOnce net.network
  pub few : net.network.network.taken ≤ most_of_last settings new_world items
  pub refuses : is_byte_rest net.network ≡ true → (item : Item) → item_fault net.network item
      ≡ option_map fault_by (refused settings (world_of settings items) item)
  pub servers : IsOneRoomNet net
