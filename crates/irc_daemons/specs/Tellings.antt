-- What servers are told of links: that one is up, and that it is lost. Both ends are told, one
-- after the other.
--
-- a.net (place 0) calls b.net (place 1); at a.net the link is connection 7, at b.net connection 4:
--   a.net is told    `LinkUp 7 b.net`, since it has called: ends 0 1 is 7, and the two are linked;
--                    b.net is still to be told
--   b.net is told    `LinkUp 4`: ends 1 0 is 4, and nothing is left to be told
--   b.net is told    `LinkDown 4`, since its read has ended: ends 1 0 is nothing, and the two are
--                    linked no more; a.net is still to be told
--   a.net is told    `LinkDown 7`
use Rattle.std.specs.Prelude.{◌≡◌, ℕ, Bool, true, false, ◌&&◌, ◌||◌, nat_eq, Option, Some, None}
use Rattle.std.specs.Prelude.{List, [], ◌∷◌, if◌then◌else◌}
use Rattle.std.specs.List.{slice_get}
use Rattle.irc_outbox.specs.Calls.{Call}
use Rattle.irc_relay.specs.Links.{Name}
use Rattle.irc_server.specs.declared.event.Event.{Event}
use Rattle.irc_server.specs.declared.event.Event.TheVariants.{LinkDown, LinkUp}
use Rattle.irc_server.specs.Served.{ReadEvent, link_down, link_up}
use Rattle.irc_world.specs.Stepping.{Item, cut, link}
use Rattle.irc_daemons.specs.Daemons.{AreLinksOpen, Daemons}
use Rattle.irc_daemons.specs.Steps.{Steps, unless_taken}

-- what a server is told of a link: that it is up, with the name that was called at this end, if
-- one was; or that it is lost
pub data LinkTidings : Type 0 where
  is_up : Option Name → LinkTidings
  is_lost : LinkTidings

-- the event by which a server of an engine is told, and what happens then in a network
abbrev pub event_of : LinkTidings → ℕ → Event
event_of (is_up called) conn = LinkUp conn called
event_of is_lost conn = LinkDown conn

abbrev pub read_event_by : LinkTidings → ℕ → ReadEvent
read_event_by (is_up called) other = link_up other called
read_event_by is_lost other = link_down other

-- ---- who is linked then

-- the connection that is the link's end from then on
abbrev pub end_by : LinkTidings → ℕ → Option ℕ
end_by (is_up called) conn = Some conn
end_by is_lost conn = None

abbrev pub is_way_by : LinkTidings → Bool
is_way_by (is_up called) = true
is_way_by is_lost = false

abbrev pub end_set : {W : Type 0} → Daemons W → (place other : ℕ) → Option ℕ → ℕ → ℕ → Option ℕ
end_set old place other end x y = if nat_eq x place && nat_eq y other then end else old.ends x y

-- both ways
abbrev pub way_set : {W : Type 0} → Daemons W → (place other : ℕ) → Bool → ℕ → ℕ → Bool
way_set old place other is x y =
    if (nat_eq x place && nat_eq y other) || (nat_eq x other && nat_eq y place)
    then is else old.ways x y

-- a seat is nobody's any more whose number a link has taken
abbrev pub seats_by : {W : Type 0} → LinkTidings → ℕ → ℕ → Daemons W → ℕ → ℕ → Option ℕ
seats_by (is_up called) place conn old x client =
    if nat_eq x place then unless_taken conn (old.seats x client) else old.seats x client
seats_by is_lost place conn old x client = old.seats x client

abbrev pub linked_by : {W : Type 0} → LinkTidings → (place other conn : ℕ) → Daemons W → Daemons W
linked_by tidings place other conn old = record old {
  ends = end_set old place other (end_by tidings conn);
  ways = way_set old place other (is_way_by tidings);
  seats = seats_by tidings place conn old;
}

-- ---- one end is told

-- a link that is lost was there, and one that is made was not
abbrev pub end_before : LinkTidings → ℕ → Option ℕ
end_before (is_up called) conn = None
end_before is_lost conn = Some conn

-- The server at a place is told of its link with another, and of nothing else in this turn. What
-- it puts out on the link goes on its way from there on.
pub record TellsEnd {W : Type 0} (is_after : W → List Call → Type 0) (tidings : LinkTidings)
    (place other : ℕ) (old new : Daemons W) : Type 0 where
  pub conn : ℕ
  pub was : old.ends place other ≡ end_before tidings conn
  pub step : Steps is_after place (linked_by tidings place other conn old) new
  pub told : step.did.events ≡ event_of tidings conn ∷ []
  pub stay : AreLinksOpen new

-- ---- both ends

-- What both ends are told by one item: this one, and the other. The server that calls is the first
-- in the item.
pub data IsOfItem (names : List Name) (place other : ℕ) (item : Item)
    (mine theirs : LinkTidings) : Type 0 where
  has_called : (near far : Name) → slice_get names place ≡ Some near
      → slice_get names other ≡ Some far → item ≡ link near far → mine ≡ is_up (Some far)
      → theirs ≡ is_up None → IsOfItem names place other item mine theirs
  was_called : (near far : Name) → slice_get names place ≡ Some far
      → slice_get names other ≡ Some near → item ≡ link near far → mine ≡ is_up None
      → theirs ≡ is_up (Some far) → IsOfItem names place other item mine theirs
  has_lost : (near far : Name) → slice_get names place ≡ Some near
      → slice_get names other ≡ Some far → item ≡ cut near far → mine ≡ is_lost → theirs ≡ is_lost
      → IsOfItem names place other item mine theirs

-- the server at a place is still to be told of its link with another
pub record Owing : Type 0 where
  pub place : ℕ
  pub other : ℕ
  pub tidings : LinkTidings
