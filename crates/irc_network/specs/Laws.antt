-- What holds of any network of servers.
use Rattle.std.specs.Prelude.{◌≡◌, ℕ, true, Some, None, List, [], ◌∷◌, ◌++◌}
use Rattle.irc_world.specs.Stepping.{Item}
use Rattle.irc_network.specs.Network.{AreReceived, Progress, Network, TakesInTurn, begun, delivered}
use Rattle.irc_network.specs.Network.{first_direction, given, heard, is_at_rest}

-- where no line is on its way there is none to deliver
pub record StaysAtRest (progress : Progress Network) : Type 0 where
  pub no_line : (from to : ℕ) → delivered from to progress ≡ None
  pub no_way : first_direction progress.state ≡ None

abbrev pub RestStays : Type 0
RestStays = (progress : Progress Network) → is_at_rest progress.state ≡ true → StaysAtRest progress

-- what is given is kept in turn, and lines are counted anew
pub record IsKept (item : Item) (net : Network) : Type 0 where
  pub items : (given item net).state.items ≡ net.items ++ item ∷ []
  pub taken : (given item net).state.taken ≡ 0

abbrev pub GivenIsKept : Type 0
GivenIsKept = (item : Item) (net : Network) → IsKept item net

-- What clients have received by an item, by a line more that a server is asked for, by a delivery
-- and by lines taken in turn is what the network tells of each.
pub record ReceiptsAreReceived : Type 0 where
  pub given : (item : Item) (net : Network) → AreReceived net (given item net)
  pub heard : (from to : ℕ) (bytes : List ℕ) (net : Network) (between : Progress Network)
      → AreReceived net between → AreReceived net (heard from to between bytes)
  pub delivered : (from to : ℕ) (net : Network) (new : Progress Network)
      → delivered from to (begun net) ≡ Some new → AreReceived net new
  pub in_turn : (count : ℕ) (net : Network) (new : Progress Network)
      → TakesInTurn count (begun net) new → AreReceived net new
