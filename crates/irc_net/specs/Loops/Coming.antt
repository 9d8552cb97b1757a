-- Bytes that come, as the code asks for them.
use Rattle.std.specs.Prelude.{◌≡◌, ◌⊎◌, ℕ, true, false, None, Some, Result, Ok, Err, List}
use Rattle.irc_relay.specs.Links.{Name}
use Rattle.irc_net.specs.declared.fault.NetFault.{NetFault}
use Rattle.irc_net.specs.declared.fault.NetFault.TheVariants.{Failed, Memory}
use Rattle.irc_net.specs.Calls.{NetView, count_between, piece_between, standing}
use Rattle.irc_net.specs.Faults.{deliver_fault}
use Rattle.irc_forest.specs.declared.places.EndPlaces.{EndPlaces}
use Rattle.irc_network.specs.Loops.Progress.{ends_now}
use Rattle.irc_network.specs.Network.{Receipt, link_places}

-- why there are none
abbrev pub IsNoWay : NetView → Name → Name → NetFault → Type 0
IsNoWay net from to fault = ((net.failed ≡ true) × (fault ≡ Failed))
    ⊎ ((net.failed ≡ false) × (deliver_fault net.network from to ≡ Some fault))

pub record AreEnds (net : NetView) (from to : Name) (ends : EndPlaces) : Type 0 where
  pub stands : net.failed ≡ false
  pub none : deliver_fault net.network from to ≡ None
  pub ends_are : link_places net.network.network from to ≡ Some (ends_now ends)

-- the ends of two linked servers
abbrev pub AreLinkedEnds : NetView → Name → Name → Result EndPlaces NetFault → Type 0
AreLinkedEnds net from to (Ok ends) = AreEnds net from to ends
AreLinkedEnds net from to (Err fault) = IsNoWay net from to fault

-- so many bytes came from one to the other, and this is what clients received
pub record ComesTo (old : NetView) (ends : EndPlaces) (count taken : ℕ) (receipts : List Receipt)
    (new : NetView) : Type 0 where
  pub taken_is : taken ≡ count_between count old.network (ends_now ends)
  pub received : receipts ≡ (piece_between count old.network (ends_now ends)).out
  pub after : new ≡ standing (piece_between count old.network (ends_now ends)).state

-- or memory ran out
abbrev pub HaveComeTo : NetView → EndPlaces → ℕ → Result (ℕ × List Receipt) NetFault → NetView
    → Type 0
HaveComeTo old ends count (Ok pair) new = ComesTo old ends count pair.0 pair.1 new
HaveComeTo old ends count (Err fault) new = (fault ≡ Memory) × (new.failed ≡ true)
