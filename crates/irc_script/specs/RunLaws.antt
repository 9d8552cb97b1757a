-- What holds of running scripts.
use Rattle.std.specs.Prelude.{◌≡◌, ℕ, Bool, true, not, ◌&&◌, Ok, List, [], ◌∷◌, ◌++◌}
use Rattle.std.specs.List.{list_any}
use Rattle.std.specs.List.Sorted.{IsPermutation}
use Rattle.irc_net.specs.ByteNetwork.{ByteNetwork, is_byte_rest}
use Rattle.irc_relay.specs.Links.{Name}
use Rattle.irc_script.specs.Networks.{exceeds, first_net, in_name_order}
use Rattle.irc_script.specs.OneRoom.{IsPrintedOf}
use Rattle.irc_script.specs.Runs.{Runs}
use Rattle.irc_script.specs.Scripts.{ScriptAsked, Request, settles, script_read}

-- what is asked for is run to its end
pub record RunsToItsEnd (first : ByteNetwork) (requests : List Request) : Type 0 where
  pub last : ByteNetwork
  pub text : List ℕ
  pub runs : Runs first requests last text

-- Each script that is read can be run to its end.
abbrev pub EachRuns : Type 0
EachRuns = (text : List ℕ) (asked : ScriptAsked) → script_read text ≡ Ok asked
    → RunsToItsEnd (first_net asked.servers) asked.requests

-- two runs come to the same network, and print the same
pub record SameRun (last other : ByteNetwork) (text more : List ℕ) : Type 0 where
  pub last_is : last ≡ other
  pub text_is : text ≡ more

-- From one network, what is asked for comes to one end and prints one text.
abbrev pub RunsOneWay : Type 0
RunsOneWay = (first last other : ByteNetwork) (requests : List Request) (text more : List ℕ)
    → Runs first requests last text → Runs first requests other more → SameRun last other text more

-- no name is greater than one behind it
abbrev pub are_ordered : List Name → Bool
are_ordered [] = true
are_ordered (name ∷ names) = not (list_any (exceeds name) names) && are_ordered names

pub record IsInOrder (names sorted : List Name) : Type 0 where
  pub same_ones : IsPermutation names sorted
  pub ordered : are_ordered sorted ≡ true

-- Names in order are the same names, and none is behind a greater one.
abbrev pub OrderIsSo : Type 0
OrderIsSo = (names : List Name) → IsInOrder names (in_name_order names)

-- What a script prints is what its clients receive of one room, at its end and behind each of its
-- requests.
abbrev pub PrintsOneRoom : Type 0
PrintsOneRoom = (text : List ℕ) (asked : ScriptAsked) (requests left : List Request)
    (net : ByteNetwork) (printed : List ℕ)
    → script_read text ≡ Ok asked → asked.requests ≡ requests ++ left → Runs
    (first_net asked.servers) requests net printed → IsPrintedOf asked.servers net printed

-- Behind a `settle` nothing is on its way.
abbrev pub SettlesToRest : Type 0
SettlesToRest = (first last : ByteNetwork) (requests : List Request) (text : List ℕ)
    → Runs first (requests ++ settles ∷ []) last text
    → is_byte_rest last ≡ true
