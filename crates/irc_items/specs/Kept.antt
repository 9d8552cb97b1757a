-- What the deliveries of a network keep.
use Rattle.std.specs.Prelude.{◌≡◌, ℕ, ◌+◌, ◌<◌, ◌≤◌, min, Some}
use Rattle.irc_network.specs.Network.{Progress, Network, TakesInTurn, delivered, lines_left}
use Rattle.irc_network.specs.Network.{max_count, next_in_turn}
use Rattle.irc_items.specs.Sound.{most_now, IsSound}

-- lines that are delivered, one after another
pub record KeepsItems (count : ℕ) (old new : Network) : Type 0 where
  pub sound : IsSound old → IsSound new
  pub most : most_now new ≡ most_now old
  pub taken : new.taken ≡ min (old.taken + count) max_count

abbrev pub DeliveryKeepsSound : Type 0
DeliveryKeepsSound = (from to : ℕ) (old new : Progress Network) → delivered from to old ≡ Some new
    → old.state.taken ≤ max_count → KeepsItems 1 old.state new.state

abbrev pub SettlingKeepsSound : Type 0
SettlingKeepsSound = (count : ℕ) (old new : Progress Network) → TakesInTurn count old new
    → old.state.taken ≤ max_count → KeepsItems count old.state new.state

-- No more lines were taken in a sound network than servers need at most for the last item.
abbrev pub TakenAreFew : Type 0
TakenAreFew = (net : Network) → IsSound net → net.taken ≤ most_now net

-- Lines that are taken one after another are no more than servers need at most for the last item,
abbrev pub TurnsAreFew : Type 0
TurnsAreFew = (count : ℕ) (old new : Progress Network) → IsSound old.state
    → TakesInTurn count old new → count ≤ most_now old.state

-- so each one leaves fewer.
abbrev pub TurnLeavesFewer : Type 0
TurnLeavesFewer = (most : ℕ) (old new : Progress Network) → IsSound old.state
    → most_now old.state ≤ most
    → next_in_turn old ≡ Some new
    → lines_left most new < lines_left most old
