-- A way from a server to another is opened or closed.
use Rattle.std.proofs.Common.{◌≡◌, ◌≢◌, ℕ, Bool, true, false, cond, Some, [], refl, sym, ◌∙◌, ap}
use Rattle.std.proofs.Common.{List, None, Option}
use Rattle.std.specs.FinMap.{get}
use Rattle.std.specs.Option.{option_and_then, option_map_or}
use Rattle.irc_relay.specs.Distances.{IsAmong}
use Rattle.irc_relay.specs.Lemmas.TellingNames.{Telling, alike, unlike, tell}
use Rattle.irc_relay.specs.Links.{Name}
use Rattle.irc_stage.specs.Lemmas.Numbers.{get-with, one_number, same_number, same_number-refl}
use Rattle.irc_stage.specs.Lemmas.Numbers.{get-without}
use Rattle.irc_follow.specs.Tree.{index_in}
use Rattle.irc_network.specs.Network.{Network, Node, node_changed_at, with_node, with_way}
use Rattle.irc_network.specs.Network.{without_way}
use Rattle.irc_items.specs.Relayed.{way_at}
use Rattle.irc_items.specs.SetUp.{settings_of, view_at, IsSetUp}
use Rattle.irc_items.specs.Lemmas.SetUpFacts.{there, IsThere}
use Rattle.irc_items.proofs.Nodes.NodeChanged.{same_server, set_up_after, node_set, node_there}
use Rattle.irc_items.proofs.Nodes.NodeChanged.{IsSetUpAfter, IsNodeChanged}

-- what waits on one way of a server is other than it was, and nothing else is
pub record IsWaySet (t : Name) (to : ℕ) (lines : Option (List (List ℕ)))
    (old new : Network) : Type 0 where
  pub set_up : IsSetUp new
  pub settings : settings_of new ≡ settings_of old
  pub views : (u : Name) → view_at new u ≡ view_at old u
  pub way : way_at new t to ≡ lines
  pub same_way : (place : ℕ) → place ≢ to → way_at new t place ≡ way_at old t place
  pub other_ways : (u : Name) (place : ℕ) → u ≢ t → way_at new u place ≡ way_at old u place

-- it is done to the node of t
abbrev pub way_changed : (ℕ → Node → Node) → Network → Name → ℕ → Node → Network
way_changed change net t to node = with_node (index_in net.names t) (change to node) net

-- a change of one way of a node, which has these lines then: it is opened with nothing on it, or
-- closed, and what was on it is gone
pub record ChangesWay (change : ℕ → Node → Node) (lines : Option (List (List ℕ))) : Type 0 where
  pub same_one : (to : ℕ) (node : Node) → (change to node).server ≡ node.server
  pub queues : (to : ℕ) (node : Node) (place : ℕ) → get (change to node).queues place
      ≡ cond (same_number place to) lines (get node.queues place)

pub opens : ChangesWay with_way (Some [])
opens = record {
  same_one = λ to node. refl;
  queues = λ to node place. get-with node.queues to [] place;
}

pub closes : ChangesWay without_way None
closes = record {
  same_one = λ to node. refl;
  queues = λ to node place. get-without node.queues to place;
}

module _ {change : ℕ → Node → Node} {lines : Option (List (List ℕ))} (by : ChangesWay change lines)
    (net : Network) (set_up : IsSetUp net) (t : Name)
    (among : IsAmong net.names t) (to : ℕ) where
  abbrev at : IsThere net t
  at = there net set_up t among

  abbrev new : Network
  new = way_changed change net t to at.node

  changed : IsNodeChanged (index_in net.names t) (change to at.node) net new
  changed = node_set (index_in net.names t) at.node (change to at.node) net new at.is_node
      (same_server at.node (change to at.node) (by.same_one to at.node)) refl

  after : IsSetUpAfter t (view_at net t) (change to at.node) net new
  after = set_up_after net new set_up t among (change to at.node) (view_at net t) changed
      (by.same_one to at.node ∙ at.is_view) (set_up.configured t among)

  queued : (place : ℕ)
      → way_at new t place ≡ cond (same_number place to) lines (get at.node.queues place)
  queued place = ap (option_and_then (λ (node : Node). get node.queues place)) after.node
      ∙ by.queues to at.node place

  pub way_set : IsWaySet t to lines net new
  way_set = record {
    set_up = after.set_up;
    settings = changed.settings;
    views = λ u. by_name u (tell u t);
    way = queued to ∙ ap (λ b. cond b lines (get at.node.queues to)) (same_number-refl to);
    same_way = λ place two. queued place ∙ elsewhere place two (same_number place to) refl
        ∙ sym (ap (option_and_then (λ (node : Node). get node.queues place))
        (node_there net set_up t among));
    other_ways = λ u place two. ap (option_and_then (λ (node : Node). get node.queues place))
        (after.other_nodes u two);
  }
    where
      by_name : (u : Name) → Telling u t → view_at new u ≡ view_at net u
      by_name u (alike _ e) = ap (view_at new) e ∙ after.state ∙ sym (ap (view_at net) e)
      by_name u (unlike _ two) = after.other_views u two

      elsewhere : (place : ℕ) → place ≢ to → (b : Bool) → same_number place to ≡ b
          → cond (same_number place to) lines (get at.node.queues place) ≡ get at.node.queues place
      elsewhere place two true e = absurd (two (one_number place to e))
      elsewhere place two false e = ap (λ b. cond b lines (get at.node.queues place)) e

  -- the network changes it so
  pub is_set : node_changed_at (index_in net.names t) (change to) net ≡ new
  is_set = ap (λ o. option_map_or
      (λ node. with_node (index_in net.names t) (change to node) net) o net) at.is_node
