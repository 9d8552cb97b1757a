-- The laws of networks of layers. Each is the contract of a public function of this crate.
use Rattle.std.specs.Prelude.{◌≡◌, ◌≢◌, ℕ, true, is_some, Option, Some, None, List, [], ◌∷◌, ◌++◌}
use Rattle.std.specs.Prelude.{nat_eq, if◌then◌else◌}
use Rattle.std.specs.List.{filter_map}
use Rattle.irc_batch.specs.declared.close_reason.CloseReason.{CloseReason}
use Rattle.irc_batch.specs.Batches.{Sent, line_to, end_of, line_on, end_of_link}
use Rattle.irc_relay.specs.Links.{Name, same, AreJoined}
use Rattle.irc_server.specs.declared.event.Event.{Event}
use Rattle.irc_server.specs.declared.event.Event.TheVariants.{LinkDown}
use Rattle.irc_server.specs.Served.{fault_of}
use Rattle.irc_stage.specs.View.{View}
use Rattle.irc_layer.specs.Layers.{LayerView}
use Rattle.irc_overlaps.specs.Networks.{Net, end_at, AreOneLink, Told, received, ended}
use Rattle.irc_overlaps.specs.Networks.{Closing}
use Rattle.irc_overlaps.specs.Rest.{HaveTheirEnds, IsNew, IsQuietPart, IsSound}
use Rattle.irc_overlaps.specs.Steps.{Happens, HasGiven, HasHandled, IsDelivered, IsGiven, IsLost}
use Rattle.irc_overlaps.specs.Steps.{Run, Step, is_of_client}

-- ---- links

-- Whatever happens, the links are a forest, and just those are linked that have the two ends of
-- one.
abbrev pub StepKeepsSound : Type 0
StepKeepsSound = (step : Step) (old new : Net) → Happens step old new → IsSound old → IsSound new

abbrev pub RunsAreSound : Type 0
RunsAreSound = (steps : List Step) (old new : Net) → IsNew old → Run steps old new → IsSound new

-- .. and each layer has just the ends that its server has in the network, so that each line that is
-- on its way is one that the layer hears.
abbrev pub StepKeepsEnds : Type 0
StepKeepsEnds =
    (step : Step) (old new : Net) → Happens step old new → HaveTheirEnds old → HaveTheirEnds new

abbrev pub RunsHaveTheirEnds : Type 0
RunsHaveTheirEnds =
    (steps : List Step) (old new : Net) → IsNew old → Run steps old new → HaveTheirEnds new

-- ---- at any time

-- Whatever a client does that its server does not refuse can happen, whatever is on its way; and so
-- an end can be lost that a server has.
pub record CanBeGiven (s : Name) (event : Event) (old : Net) : Type 0 where
  pub new : Net
  pub given : HasGiven s event old new

pub record CanBeLost (s : Name) (n : ℕ) (old : Net) : Type 0 where
  pub new : Net
  pub lost : IsLost s n old new

abbrev pub GivenAtAnyTime : Type 0
GivenAtAnyTime =
    (s : Name) (event : Event) (view : View) (old : Net) → (old.layer s).server ≡ Some view
    → is_of_client event ≡ true → fault_of view event ≡ None → CanBeGiven s event old

abbrev pub LostAtAnyTime : Type 0
LostAtAnyTime =
    (s : Name) (n : ℕ) (view : View) (old : Net) → (old.layer s).server ≡ Some view
    → is_some (old.other s n) ≡ true → fault_of view (LinkDown n) ≡ None → CanBeLost s n old

-- ---- what is done at a server

-- all of these are of one server
abbrev pub AreBy : Name → List Closing → Type 0
AreBy s [] = Unit
AreBy s (closing ∷ more) = (closing.server ≡ s) × AreBy s more

-- some of one's own are behind those that were
pub record HasClosed (s : Name) (old new : List Closing) : Type 0 where
  pub more : List Closing
  pub by_it : AreBy s more
  pub new_is : new ≡ old ++ more

-- lines are put behind those on their way; and none where the other end is not the server's
pub record IsBehind (old new : List (List ℕ)) : Type 0 where
  pub more : List (List ℕ)
  pub new_is : new ≡ old ++ more

-- Every other server is as it was, and so are its ends and what its clients were told; what was on
-- its way to it still is, and something more only from this server.
pub record LeavesOthers (s : Name) (old new : Net) : Type 0 where
  pub layers : (x : Name) → x ≢ s → new.layer x ≡ old.layer x
  pub told : (x : Name) (conn : ℕ) → x ≢ s → new.told x conn ≡ old.told x conn
  pub others : (x : Name) (k : ℕ) → x ≢ s → new.other x k ≡ old.other x k
  pub coming : (x : Name) (k : ℕ) → x ≢ s → IsBehind (old.coming x k) (new.coming x k)
  pub elsewhere : (x : Name) (k : ℕ) → x ≢ s → ((n : ℕ) → old.other x k ≡ Some (end_at s n) → ⊥)
      → new.coming x k ≡ old.coming x k
  pub closings : HasClosed s old.closings new.closings

-- what is on its way to an end is as it was, or the server has closed the end
pub data IsLeft (s : Name) (n : ℕ) (lines : List (List ℕ)) (new : Net) : Type 0 where
  is_there : new.coming s n ≡ lines → IsLeft s n lines new
  is_closed : new.other s n ≡ None → IsLeft s n lines new

-- A client's event is of its server alone, also where something is on its way.
pub record IsOfOne (s : Name) (old new : Net) : Type 0 where
  pub leaves : LeavesOthers s old new
  pub own : (n : ℕ) → IsLeft s n (old.coming s n) new

abbrev pub GivenIsOfOne : Type 0
GivenIsOfOne =
    (s : Name) (event : Event) (old new : Net) → IsSound old → HasGiven s event old new
    → IsOfOne s old new

-- A delivery is of one server, and takes the first line of one queue.
pub record TakesFirst (s : Name) (n : ℕ) (old new : Net) : Type 0 where
  pub line : List ℕ
  pub more : List (List ℕ)
  pub on_its_way : old.coming s n ≡ line ∷ more
  pub first : IsLeft s n more new
  pub own : (k : ℕ) → k ≢ n → IsLeft s k (old.coming s k) new
  pub leaves : LeavesOthers s old new

abbrev pub DeliveryTakesFirst : Type 0
DeliveryTakesFirst =
    (s : Name) (n : ℕ) (old new : Net) → IsSound old → IsDelivered s n old new
    → TakesFirst s n old new

-- what is put out on a link in front of its end, of all that a server puts out
abbrev pub lines_on : ℕ → List Sent → List (List ℕ)
lines_on n [] = []
lines_on n (line_on k line ∷ outs) =
    if nat_eq n k then line ∷ lines_on n outs else lines_on n outs
lines_on n (end_of_link k reason ∷ outs) = if nat_eq n k then [] else lines_on n outs
lines_on n (line_to conn line ∷ outs) = lines_on n outs
lines_on n (end_of conn ∷ outs) = lines_on n outs

-- By whatever a server is given, all that it puts out on a link that is whole goes behind what was
-- on its way to the other end, in order, and nothing else does.
abbrev pub LinesGoBehind : Type 0
LinesGoBehind =
    (s t : Name) (n m : ℕ) (event : Event) (old new : Net) → IsSound old
    → AreOneLink old.other s n t m → (given : IsGiven s event old new)
    → new.coming t m ≡ old.coming t m ++ lines_on n given.outs

-- ---- rest

-- Where nothing is on its way no delivery can happen.
abbrev pub NoneIsDelivered : Type 0
NoneIsDelivered =
    (s t : Name) (n : ℕ) (old new : Net) → IsQuietPart old s → AreJoined old.links s t
    → IsDelivered t n old new → ⊥

-- ---- what clients are told, and links that are closed

-- what of all that a server puts out is for one connection
abbrev pub told_by : ℕ → Sent → Option Told
told_by conn (line_to other line) = if nat_eq conn other then Some (received line) else None
told_by conn (end_of other) = if nat_eq conn other then Some ended else None
told_by conn (line_on n line) = None
told_by conn (end_of_link n reason) = None

-- .. and which ends of links are closed, and why; the same of one server's closings
abbrev pub closes : Sent → Option (ℕ × CloseReason)
closes (end_of_link n reason) = Some (n, reason)
closes (line_to conn line) = None
closes (end_of conn) = None
closes (line_on n line) = None

abbrev pub closed_by : Name → Closing → Option (ℕ × CloseReason)
closed_by s closing = if same closing.server s then Some (closing.link, closing.reason) else None

-- a layer has handled these events, one after another
pub data HasHandledAll : LayerView → List Event → List Sent → LayerView → Type 0 where
  no_event : {layer : LayerView} → HasHandledAll layer [] [] layer
  one_event : {old between new : LayerView} {event : Event} {events : List Event}
      {first more outs : List Sent} → HasHandled old event first between
      → HasHandledAll between events more new → outs ≡ first ++ more
      → HasHandledAll old (event ∷ events) outs new

-- A server is what its own events make of it, in order. Its clients are told just what it puts out
-- for them by these, behind what they were told before, and it closes just those links of which it
-- puts out the end.
pub record GoesByItsOwn (s : Name) (old new : Net) : Type 0 where
  pub events : List Event
  pub outs : List Sent
  pub handled : HasHandledAll (old.layer s) events outs (new.layer s)
  pub told : (conn : ℕ) → new.told s conn ≡ old.told s conn ++ filter_map (told_by conn) outs
  pub closings : filter_map (closed_by s) new.closings
      ≡ filter_map (closed_by s) old.closings ++ filter_map closes outs

abbrev pub EachGoesByItsOwn : Type 0
EachGoesByItsOwn = (steps : List Step) (old new : Net) → Run steps old new → (s : Name)
    → GoesByItsOwn s old new
