-- A line is delivered: whose it is, and what is left on its way.
use Rattle.std.proofs.Common.{◌≡◌, ℕ, ◌+◌, min, Bool, true, false, cond, Option, Some, None}
use Rattle.std.proofs.Common.{is_some, List, [], ◌∷◌, refl, sym, ap, ◌∙◌, unwrap_or}
use Rattle.std.specs.FinMap.{get}
use Rattle.std.specs.Option.{option_and_then}
use Rattle.std.proofs.lemmas.Option.{same_Some}
use Rattle.irc_line.specs.Reading.{read_of}
use Rattle.irc_relay.specs.Distances.{IsAmong}
use Rattle.irc_relay.specs.Lemmas.TellingNames.{Telling, alike, unlike, tell}
use Rattle.irc_relay.specs.Links.{Name}
use Rattle.irc_stage.specs.Lemmas.Numbers.{get-with, one_number, same_number, same_number-refl}
use Rattle.irc_server.specs.Served.{link_says}
use Rattle.irc_follow.specs.Tree.{index_in}
use Rattle.irc_network.specs.Network.{Progress, Node, node_asked, line_counted, delivered, left}
use Rattle.irc_network.specs.Network.{Network, node_at, taken_of, waiting, with_node}
use Rattle.irc_items.specs.Relayed.{way_at, way_between}
use Rattle.irc_items.specs.SetUp.{settings_of, view_at, IsSetUp}
use Rattle.irc_items.specs.Sound.{IsPlaceOf, IsSound}
use Rattle.irc_items.specs.Lemmas.SetUpFacts.{at_place, there}
use Rattle.irc_items.proofs.Nodes.NodeChanged.{same_server, set_up_after, node_set, node_there}
use Rattle.irc_items.proofs.Nodes.NodeChanged.{IsSetUpAfter, IsNodeChanged}

-- t took the oldest line on its way from p; it was counted, and then t was asked for it
pub record IsDeliveredTo (p t : Name) (line : List ℕ) (old new : Progress Network) : Type 0 where
  pub p_among : IsAmong old.state.names p
  pub t_among : IsAmong old.state.names t
  pub rest : List (List ℕ)
  pub waited : way_between old.state p t ≡ Some (line ∷ rest)
  pub mid : Progress Network
  pub set_up : IsSetUp mid.state
  pub left_is : way_at mid.state p (index_in old.state.names t) ≡ Some rest
  pub other_ways : (x : Name) (place : ℕ) → (x ≡ p → place ≡ index_in old.state.names t → ⊥)
      → way_at mid.state x place ≡ way_at old.state x place
  pub views : (x : Name) → view_at mid.state x ≡ view_at old.state x
  pub names : mid.state.names ≡ old.state.names
  pub links : mid.state.links ≡ old.state.links
  pub homes : mid.state.homes ≡ old.state.homes
  pub items : mid.state.items ≡ old.state.items
  pub received : mid.state.received ≡ old.state.received
  pub settings : settings_of mid.state ≡ settings_of old.state
  pub counted_is : mid.state.taken ≡ min (old.state.taken + 1) 18446744073709551615
  pub asked_is : new ≡ node_asked (index_in old.state.names t)
      (link_says (index_in old.state.names p) (read_of line)) mid

pub record IsDelivery (old new : Progress Network) : Type 0 where
  pub giver : Name
  pub taker : Name
  pub line : List ℕ
  pub delivered_to : IsDeliveredTo giver taker line old new

module _ (old : Progress Network) (set_up : IsSetUp old.state) (p t : Name)
    (p_among : IsAmong old.state.names p)
    (t_among : IsAmong old.state.names t)
    (line : List ℕ) (rest : List (List ℕ)) (waited : waiting (there old.state set_up p p_among).node
    (index_in old.state.names t) ≡ line ∷ rest)
    (new : Progress Network)
    (new_is : new ≡ node_asked (index_in old.state.names t)
    (link_says (index_in old.state.names p) (read_of line))
    (record old {
      state = line_counted (with_node (index_in old.state.names p)
          (left (index_in old.state.names t) rest (there old.state set_up p p_among).node)
          old.state);
    })) where
  abbrev node : Node
  node = (there old.state set_up p p_among).node

  abbrev after : Node
  after = left (index_in old.state.names t) rest node

  abbrev mid : Progress Network
  mid = record old { state = line_counted (with_node (index_in old.state.names p) after old.state) }

  changed : IsNodeChanged (index_in old.state.names p) after old.state mid.state
  changed = node_set (index_in old.state.names p) node after old.state mid.state
      (there old.state set_up p p_among).is_node (same_server node after refl) refl

  now : IsSetUpAfter p (view_at old.state p) after old.state mid.state
  now = set_up_after old.state mid.state set_up p p_among after (view_at old.state p) changed
      (there old.state set_up p p_among).is_view (set_up.configured p p_among)

  queued : (o : Option (List (List ℕ))) → get node.queues (index_in old.state.names t) ≡ o
      → unwrap_or o [] ≡ line ∷ rest → o ≡ Some (line ∷ rest)
  queued None is e = cc e
  queued (Some lines) is e = ap Some e

  queue_is : get node.queues (index_in old.state.names t) ≡ Some (line ∷ rest)
  queue_is = queued (get node.queues (index_in old.state.names t)) refl waited

  other_way : (x : Name) (place : ℕ) → (x ≡ p → place ≡ index_in old.state.names t → ⊥)
      → Telling x p → way_at mid.state x place ≡ way_at old.state x place
  other_way x place two (unlike _ n) =
      ap (option_and_then (λ (s : Node). get s.queues place)) (now.other_nodes x n)
  other_way x place two (alike _ e) =
      ap (λ v. way_at mid.state v place) e
      ∙ ap (option_and_then (λ (s : Node). get s.queues place)) now.node
      ∙ get-with node.queues (index_in old.state.names t) rest place
      ∙ ap (λ b. cond b (Some rest) (get node.queues place))
      (not_it (same_number place (index_in old.state.names t)) refl)
      ∙ sym (ap (option_and_then (λ (s : Node). get s.queues place))
      (node_there old.state set_up p p_among))
      ∙ sym (ap (λ v. way_at old.state v place) e)
    where
      not_it : (b : Bool) → same_number place (index_in old.state.names t) ≡ b
          → same_number place (index_in old.state.names t) ≡ false
      not_it true is = absurd (two e (one_number place (index_in old.state.names t) is))
      not_it false is = is

  view_same : (x : Name) → Telling x p → view_at mid.state x ≡ view_at old.state x
  view_same x (alike _ e) = ap (view_at mid.state) e ∙ now.state ∙ sym (ap (view_at old.state) e)
  view_same x (unlike _ n) = now.other_views x n

  pub delivered_so : IsDeliveredTo p t line old new
  delivered_so = record {
    p_among = p_among;
    t_among = t_among;
    rest = rest;
    waited = ap (option_and_then (λ (s : Node). get s.queues (index_in old.state.names t)))
        (node_there old.state set_up p p_among) ∙ queue_is;
    mid = mid;
    set_up = now.set_up;
    left_is =
        ap (option_and_then (λ (s : Node). get s.queues (index_in old.state.names t))) now.node
        ∙ get-with node.queues (index_in old.state.names t) rest (index_in old.state.names t)
        ∙ ap (λ b. cond b (Some rest) (get node.queues (index_in old.state.names t)))
        (same_number-refl (index_in old.state.names t));
    other_ways = λ x place two. other_way x place two (tell x p);
    views = λ x. view_same x (tell x p);
    names = refl;
    links = refl;
    homes = refl;
    items = refl;
    received = refl;
    settings = changed.settings;
    counted_is = refl;
    asked_is = new_is;
  }

-- a delivery is one from a server to a server
pub delivered_between : (old : Progress Network) → IsSound old.state
    → (from to : ℕ) (new : Progress Network) → delivered from to old ≡ Some new → IsDelivery old new
unfolding delivered
delivered_between old sound from to new is = by (node_at old.state from) refl
  where
    taken : (node : Node) (p : IsPlaceOf old.state from) (t : IsPlaceOf old.state to)
        → node_at old.state from ≡ Some node → (line : List ℕ) (rest : List (List ℕ))
        → waiting node to ≡ line ∷ rest → taken_of from to old node (line ∷ rest) ≡ Some new
        → IsDelivery old new
    taken node p t is_node line rest waited e = record {
      giver = p.server;
      taker = t.server;
      line = line;
      delivered_to = delivered_so old sound.set_up p.server t.server p.among t.among line rest
          (ap (λ place. waiting (there old.state sound.set_up p.server p.among).node place) t.is
          ∙ ap (λ (s : Node). waiting s to) (sym one_node) ∙ waited) new
          (sym (same_Some _ new e) ∙ ap (λ (s : Node). node_asked to (link_says from (read_of line))
          (record old { state = line_counted (with_node from (left to rest s) old.state) }))
          one_node
          ∙ ap (λ n. node_asked to (link_says n (read_of line))
          (record old {
            state = line_counted (with_node n (left to rest
                (there old.state sound.set_up p.server p.among).node) old.state);
          })) (sym p.is)
          ∙ ap (λ n. node_asked n (link_says (index_in old.state.names p.server) (read_of line))
          (record old {
            state = line_counted (with_node (index_in old.state.names p.server)
                (left n rest (there old.state sound.set_up p.server p.among).node) old.state);
          }))
          (sym t.is));
    }
      where
        one_node : node ≡ (there old.state sound.set_up p.server p.among).node
        one_node = same_Some node (there old.state sound.set_up p.server p.among).node
            (sym is_node ∙ ap (node_at old.state) (sym p.is)
            ∙ (there old.state sound.set_up p.server p.among).is_node)

    there_is : (node : Node) (p : IsPlaceOf old.state from) → node_at old.state from ≡ Some node
        → (line : List ℕ) (rest : List (List ℕ)) → waiting node to ≡ line ∷ rest
        → is_some (way_at old.state p.server to) ≡ true
    there_is node p is_node line rest waited =
        ap (λ o. is_some (option_and_then (λ (s : Node). get s.queues to) o))
        (node_there old.state sound.set_up p.server p.among
        ∙ sym (there old.state sound.set_up p.server p.among).is_node
        ∙ ap (node_at old.state) p.is ∙ is_node)
        ∙ queue_there (get node.queues to) waited
      where
        queue_there : (o : Option (List (List ℕ))) → unwrap_or o [] ≡ line ∷ rest → is_some o ≡ true
        queue_there None e = cc e
        queue_there (Some lines) e = refl

    lines : (node : Node) → node_at old.state from ≡ Some node → (all : List (List ℕ))
        → waiting node to ≡ all → taken_of from to old node all ≡ Some new → IsDelivery old new
    lines node is_node [] waited e = absurd (cc e)
    lines node is_node (line ∷ rest) waited e =
        let p = at_place old.state sound.set_up from node is_node in
        taken node p (sound.to_servers p.server to (there_is node p is_node line rest waited))
        is_node line rest waited e

    by : (o : Option Node) → node_at old.state from ≡ o → IsDelivery old new
    by None e = absurd (let no = sym (ap (option_and_then
        (λ (node : Node). taken_of from to old node (waiting node to))) e) ∙ is in cc no)
    by (Some node) e = lines node e (waiting node to) refl
        (sym (ap (option_and_then (λ (node : Node). taken_of from to old node (waiting node to))) e)
        ∙ is)
