-- What a network of servers is to its clients, whatever was given to it and in whatever order its
-- lines were delivered: one room. Nothing is said of a network for which memory ran out.
use Rattle.std.specs.Prelude.{◌≡◌, ℕ, ◌≤◌, true, false, None, List}
use Rattle.irc_relay.specs.Relay.{IsFront}
use Rattle.irc_world.specs.Refused.{refused}
use Rattle.irc_relay.specs.Links.{Name}
use Rattle.irc_world.specs.Stepping.{Item, link}
use Rattle.irc_network.specs.Network.{max_count}
use Rattle.irc_network.specs.ByteNetwork.{ByteNetwork, net_in_lines, is_byte_rest}
use Rattle.irc_network.specs.Whole.{IsWholeNet}
use Rattle.irc_network.specs.Refusing.{fault_at_rest}
use Rattle.irc_items.specs.Laws.{ClosesNoLink, OpensBothEnds}
use Rattle.irc_items.specs.OneRoom.{IsOneRoom}
use Rattle.irc_items.specs.SetUp.{settings_of}
use Rattle.irc_items.specs.Sound.{most_now, owed_now, world_now, IsSound}
use Rattle.irc_net.specs.Calls.{NetView}

-- what always holds while memory is there
pub record IsKeptSound (net : ByteNetwork) : Type 0 where
  pub sound : IsSound (net_in_lines net)
  pub whole : IsWholeNet net
  pub counted : net.network.taken ≤ max_count

-- What a client has received is at every moment a front of what it is owed, and at rest all of it.
pub record IsOwed (net : NetView) (client : ℕ) (lines : List (List ℕ)) : Type 0 where
  pub front : net.failed ≡ false → IsFront lines (owed_now net.network.network client)
  pub all : net.failed ≡ false → is_byte_rest net.network ≡ true
      → lines ≡ owed_now net.network.network client

-- At rest just that is refused which the network as its people know it refuses.
abbrev pub RefusesAsTheWorld : NetView → Item → Type 0
RefusesAsTheWorld net item = net.failed ≡ false → is_byte_rest net.network ≡ true
    → fault_at_rest net.network.network item ≡ refused (settings_of net.network.network)
    (world_now net.network.network) item

-- No more lines were taken since the last item than servers need at most to tell each other of it.
abbrev pub TakesFew : NetView → ℕ → Type 0
TakesFew net count = net.failed ≡ false → count ≤ most_now net.network.network

-- Whatever is on its way, once all lines that are coming to a server are taken it is what it has to
-- be, and its clients have received what they are owed (IsSound); at rest that is so already
-- (IsOneRoom). And no server closes a link, upon a line that comes or as it is made. What is on its
-- way as bytes is the lines that these will complete, however they are cut (net_in_lines).
pub record IsOneRoomNet (net : NetView) : Type 0 where
  pub coming : net.failed ≡ false → IsSound (net_in_lines net.network)
  pub at_rest : net.failed ≡ false → is_byte_rest net.network ≡ true → IsOneRoom net.network.network
  pub closes_none : net.failed ≡ false → ClosesNoLink (net_in_lines net.network)
  pub opens : net.failed ≡ false → (near far : Name) → fault_at_rest (net_in_lines net.network)
      (link near far) ≡ None → OpensBothEnds (net_in_lines net.network) near far
