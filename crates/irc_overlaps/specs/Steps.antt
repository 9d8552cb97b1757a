-- What happens in a network of layers, step by step, whatever is on its way.
--
-- a.net and b.net are linked, at a.net by 3 and at b.net by 4:
--   given a.net (Line 1 `TOPIC #c :one`)   al of a.net says a line; it is on its way to b.net
--   given b.net (Line 1 `TOPIC #c :two`)   so does bo, who has not heard of it
--   delivered b.net 4                      b.net is given the oldest line on its way: `COUNT 7 1`
--   delivered b.net 4                      and the next: the piece is whole, and heard
--   lost a.net 3                           a.net is told that the link is lost
--   given b.net (Line 1 `PART #c`)         b.net, which is not told yet, puts this out to nobody
--   lost b.net 4                           b.net is told
--   made b.net 5 a.net 4                   b.net calls a.net
-- What is on its way is lines, and a delivery takes one: a piece is the lines from a COUNT on, and
-- where a link is lost within it what came of it came, and nothing is heard of that. What is on its
-- way on a link that is lost is cut to any front of it, for each end may read until it is told.
use Rattle.std.specs.Prelude.{◌≡◌, ◌≢◌, ℕ, Bool, true, false, is_some, Some, None, Ok, List, []}
use Rattle.std.specs.Prelude.{◌∷◌}
use Rattle.irc_batch.specs.Batches.{Sent}
use Rattle.irc_relay.specs.Links.{Name, part}
use Rattle.irc_server.specs.declared.event.Event.{Event}
use Rattle.irc_server.specs.declared.event.Event.TheVariants.{Connect, Line, Gone, LinkUp, LinkLine}
use Rattle.irc_server.specs.declared.event.Event.TheVariants.{LinkDown}
use Rattle.irc_layer.specs.Layers.{LayerView, Handles}
use Rattle.irc_layer.specs.Putting.{body}
use Rattle.irc_overlaps.specs.Networks.{Net, all_sent_out, joining, with_coming, with_layer}
use Rattle.irc_overlaps.specs.Networks.{without_end}

-- ---- one server

-- A layer has handled an event, by which it has put out these, and is this one then. None is
-- refused here, and memory does not run out.
abbrev pub HasHandled : LayerView → Event → List Sent → LayerView → Type 0
HasHandled old event outs new =
    Handles (record { layer = old; outs = [] }) event (record { layer = new; outs = outs }) (Ok tt)

-- the server s is given an event, and what its layer puts out goes its way
pub record IsGiven (s : Name) (event : Event) (old new : Net) : Type 0 where
  pub layer : LayerView
  pub outs : List Sent
  pub handled : HasHandled (old.layer s) event outs layer
  pub new_is : new ≡ all_sent_out s outs (with_layer s layer old)

-- ---- steps

-- A client of s connects, says a line or is gone; the first line that is on its way to an end is
-- delivered; s calls t, and the link has these numbers there; s is told that its end is lost.
pub data Step : Type 0 where
  given : (s : Name) (event : Event) → Step
  delivered : (s : Name) (n : ℕ) → Step
  made : (s : Name) (n : ℕ) (t : Name) (m : ℕ) → Step
  lost : (s : Name) (n : ℕ) → Step

abbrev pub is_of_client : Event → Bool
is_of_client (Connect conn host) = true
is_of_client (Line conn line) = true
is_of_client (Gone conn) = true
is_of_client (LinkUp n called) = false
is_of_client (LinkLine n line) = false
is_of_client (LinkDown n) = false

-- at any time
pub record HasGiven (s : Name) (event : Event) (old new : Net) : Type 0 where
  pub of_client : is_of_client event ≡ true
  pub is_given : IsGiven s event old new

-- the layer is given it without its CR LF
pub record IsDelivered (s : Name) (n : ℕ) (old new : Net) : Type 0 where
  pub line : List ℕ
  pub more : List (List ℕ)
  pub on_its_way : old.coming s n ≡ line ∷ more
  pub is_given : IsGiven s (LinkLine n (record { items = body line }))
      (with_coming s n more old) new

-- It joins two parts, by numbers that are free; the end that calls is told whom it calls. What that
-- puts out is on its way when the other is told, who puts nothing out until it has come.
pub record IsMade (s : Name) (n : ℕ) (t : Name) (m : ℕ) (old new : Net) : Type 0 where
  pub apart : part old.links s ≢ part old.links t
  pub near_free : old.other s n ≡ None
  pub far_free : old.other t m ≡ None
  pub between : Net
  pub near_given : IsGiven s (LinkUp n (Some t)) (joining s n t m old) between
  pub far_given : IsGiven t (LinkUp m None) between new

-- One of the two ends is told first, at any time, or has closed the link, and then the other one,
-- at any time behind that. A server that closes its end is not told of it: it is the other that is.
pub record IsLost (s : Name) (n : ℕ) (old new : Net) : Type 0 where
  pub there : is_some (old.other s n) ≡ true
  pub is_given : IsGiven s (LinkDown n) (without_end s n old) new

abbrev pub Happens : Step → Net → Net → Type 0
Happens (given s event) old new = HasGiven s event old new
Happens (delivered s n) old new = IsDelivered s n old new
Happens (made s n t m) old new = IsMade s n t m old new
Happens (lost s n) old new = IsLost s n old new

-- some steps, one after another
pub data Run : List Step → Net → Net → Type 0 where
  no_step : {net : Net} → Run [] net net
  one_step : {step : Step} {steps : List Step} {old between new : Net} → Happens step old between
      → Run steps between new → Run (step ∷ steps) old new
