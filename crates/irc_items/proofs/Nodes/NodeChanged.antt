-- What stays of a network when one of its nodes is changed, and the server there is configured as
-- before.
use Rattle.std.proofs.Common.{◌≡◌, ◌≢◌, ◌≤◌, ℕ, count_by, zero, suc, Bool, true, false, Option}
use Rattle.std.proofs.Common.{Some, List, [], ◌∷◌, length, map, refl, sym, ◌∙◌, ap, subst}
use Rattle.std.proofs.Common.{unwrap_or}
use Rattle.std.specs.List.{filter_map, cons_option, list_any, slice_get, slice_set}
use Rattle.std.specs.Option.{option_and_then}
use Rattle.irc_forest.specs.Forests.{place_in as place_among}
use Rattle.irc_relay.specs.Distances.{IsAmong}
use Rattle.irc_relay.specs.Lemmas.TellingNames.{Telling, alike, unlike, tell}
use Rattle.irc_relay.specs.Links.{Name, same}
use Rattle.irc_routes.specs.Limits.{max_servers}
use Rattle.irc_stage.specs.View.{View}
use Rattle.irc_follow.specs.Tree.{index_in}
use Rattle.irc_follow.specs.Lemmas.PlacesOfNames.{one_place}
use Rattle.irc_network.specs.Network.{Network, Node, server_place, node_at, node_of}
use Rattle.irc_items.specs.SetUp.{named_at, no_view, setting_at, settings_of, view_at, IsConfigured}
use Rattle.irc_items.specs.SetUp.{IsSetUp}
use Rattle.irc_items.specs.Lemmas.SetUpFacts.{nowhere, there}

-- ---- a list in which one place is set

module _ {X : Type 0} where
  pub set_there : (xs : List X) (i : ℕ) (x y : X) → slice_get xs i ≡ Some x
      → slice_get (slice_set xs i y) i ≡ Some y
  set_there [] i x y is = absurd (cc is)
  set_there (z ∷ xs) zero x y is = refl
  set_there (z ∷ xs) (suc i) x y is = set_there xs i x y is

  pub set_other : (xs : List X) (i j : ℕ) (y : X) → j ≢ i
      → slice_get (slice_set xs i y) j ≡ slice_get xs j
  set_other [] i j y two = refl
  set_other (z ∷ xs) zero zero y two = absurd (two refl)
  set_other (z ∷ xs) zero (suc j) y two = refl
  set_other (z ∷ xs) (suc i) zero y two = refl
  set_other (z ∷ xs) (suc i) (suc j) y two = set_other xs i j y (λ e. two (ap suc e))

  pub set_length : (xs : List X) (i : ℕ) (y : X) → length (slice_set xs i y) ≡ length xs
  set_length [] i y = refl
  set_length (z ∷ xs) zero y = refl
  set_length (z ∷ xs) (suc i) y = ap suc (set_length xs i y)

  one_read : {Y : Type 0} (f : X → Y) (x y z : X) → Some z ≡ Some x → f y ≡ f x → f y ≡ f z
  one_read f x y z is agrees = agrees ∙ ap (λ o. f (unwrap_or o z)) (sym is)

  pub set_map : {Y : Type 0} (f : X → Y) (xs : List X) (i : ℕ) (x y : X) → slice_get xs i ≡ Some x
      → f y ≡ f x → map f (slice_set xs i y) ≡ map f xs
  set_map f [] i x y is agrees = refl
  set_map f (z ∷ xs) zero x y is agrees = ap (λ w. w ∷ map f xs) (one_read f x y z is agrees)
  set_map f (z ∷ xs) (suc i) x y is agrees = ap (λ ws. f z ∷ ws) (set_map f xs i x y is agrees)

  pub set_filter_map : {Y : Type 0} (f : X → Option Y) (xs : List X) (i : ℕ) (x y : X)
      → slice_get xs i ≡ Some x → f y ≡ f x → filter_map f (slice_set xs i y) ≡ filter_map f xs
  set_filter_map f [] i x y is agrees = refl
  set_filter_map f (z ∷ xs) zero x y is agrees =
      ap (λ w. cons_option w (filter_map f xs)) (one_read f x y z is agrees)
  set_filter_map f (z ∷ xs) (suc i) x y is agrees =
      ap (cons_option (f z)) (set_filter_map f xs i x y is agrees)

-- ---- one node is changed

pub record IsNodeChanged (place : ℕ) (after : Node) (old new : Network) : Type 0 where
  pub names : new.names ≡ old.names
  pub links : new.links ≡ old.links
  pub homes : new.homes ≡ old.homes
  pub items : new.items ≡ old.items
  pub is_after : node_at new place ≡ Some after
  pub others : (other : ℕ) → other ≢ place → node_at new other ≡ node_at old other
  pub named : map named_at new.nodes ≡ map named_at old.nodes
  pub settings : settings_of new ≡ settings_of old

pub not_changed : (place : ℕ) (node : Node) (net : Network) → node_at net place ≡ Some node
    → IsNodeChanged place node net net
not_changed place node net is = record {
  names = refl;
  links = refl;
  homes = refl;
  items = refl;
  is_after = is;
  others = λ other two. refl;
  named = refl;
  settings = refl;
}

pub only_received : (place : ℕ) (node : Node) (net : Network)
    (received : List (List (List ℕ))) → node_at net place ≡ Some node
    → IsNodeChanged place node net (record net { received = received })
only_received place node net received is = record {
  names = refl;
  links = refl;
  homes = refl;
  items = refl;
  is_after = is;
  others = λ other two. refl;
  named = refl;
  settings = refl;
}

pub changed_twice : (place : ℕ) (mid after : Node) (old between new : Network)
    → IsNodeChanged place mid old between → IsNodeChanged place after between new
    → IsNodeChanged place after old new
changed_twice place mid after old between new one two = record {
  names = two.names ∙ one.names;
  links = two.links ∙ one.links;
  homes = two.homes ∙ one.homes;
  items = two.items ∙ one.items;
  is_after = two.is_after;
  others = λ other apart. two.others other apart ∙ one.others other apart;
  named = two.named ∙ one.named;
  settings = two.settings ∙ one.settings;
}

-- of what is read of a node, all is as before
pub record IsAlikeNode (node after : Node) : Type 0 where
  pub named : named_at after ≡ named_at node
  pub setting : setting_at after ≡ setting_at node

pub same_server : (node after : Node) → after.server ≡ node.server → IsAlikeNode node after
same_server node after is = record {
  named = ap (λ (s : Option View). named_at (record node { server = s })) is;
  setting = ap (λ (s : Option View). setting_at (record node { server = s })) is;
}

pub node_set : (place : ℕ) (node after : Node) (old new : Network) → node_at old place ≡ Some node
    → IsAlikeNode node after → new ≡ record old {
      nodes = slice_set old.nodes place after;
      received = new.received;
      taken = new.taken;
    } → IsNodeChanged place after old new
node_set place node after old new is agrees new_is =
    let nodes : new.nodes ≡ slice_set old.nodes place after =
    ap (λ (net : Network). net.nodes) new_is in record {
      names = ap (λ (net : Network). net.names) new_is;
      links = ap (λ (net : Network). net.links) new_is;
      homes = ap (λ (net : Network). net.homes) new_is;
      items = ap (λ (net : Network). net.items) new_is;
      is_after = ap (λ ss. slice_get ss place) nodes ∙ set_there old.nodes place node after is;
      others = λ other two. ap (λ ss. slice_get ss other) nodes
          ∙ set_other old.nodes place other after two;
      named = ap (map named_at) nodes ∙ set_map named_at old.nodes place node after is agrees.named;
      settings = ap (filter_map setting_at) nodes
          ∙ set_filter_map setting_at old.nodes place node after is agrees.setting;
    }

-- ---- what is where

place_after : (old new : Network) (name : Name) → new.names ≡ old.names
    → server_place new name ≡ server_place old name
place_after old new name names = ap (λ (all : List Name). place_among all name) names

pub node_there : (net : Network) (set_up : IsSetUp net)
    (server : Name) (among : IsAmong net.names server)
    → node_of net server ≡ Some (there net set_up server among).node
node_there net set_up server among =
    let at = there net set_up server among in ap (option_and_then (node_at net)) at.place
    ∙ at.is_node

view_of_node : (net : Network) (server : Name) (node : Node) (view : View)
    → node_of net server ≡ Some node → node.server ≡ Some view → view_at net server ≡ view
view_of_node net server node view is_node is_view =
    ap (λ (o : Option Node). unwrap_or (option_and_then (λ (s : Node). s.server) o) no_view) is_node
    ∙ ap (λ o. unwrap_or o no_view) is_view

pub record IsSetUpAfter (t : Name) (now : View) (after : Node) (old new : Network) : Type 0 where
  pub set_up : IsSetUp new
  pub node : node_of new t ≡ Some after
  pub state : view_at new t ≡ now
  pub other_nodes : (u : Name) → u ≢ t → node_of new u ≡ node_of old u
  pub other_views : (u : Name) → u ≢ t → view_at new u ≡ view_at old u

module _ (old new : Network) (set_up : IsSetUp old) (t : Name) (among : IsAmong old.names t)
    (after : Node) (now : View)
    (changed : IsNodeChanged (index_in old.names t) after old new) where
  other_node : (u : Name) → u ≢ t → node_of new u ≡ node_of old u
  other_node u two = by (list_any (same u) old.names) refl
    where
      by : (b : Bool) → list_any (same u) old.names ≡ b → node_of new u ≡ node_of old u
      by false none =
          nowhere new u (ap (list_any (same u)) changed.names ∙ none) ∙ sym (nowhere old u none)
      by true one =
          let at = there old set_up u one in
          ap (option_and_then (node_at new)) (place_after old new u changed.names ∙ at.place)
          ∙ changed.others (index_in old.names u) (λ e. two (one_place old.names u t one e))
          ∙ at.is_node ∙ sym (node_there old set_up u one)

  other_view : (u : Name) → u ≢ t → view_at new u ≡ view_at old u
  other_view u two =
      ap (λ (o : Option Node). unwrap_or (option_and_then (λ (s : Node). s.server) o) no_view)
      (other_node u two)

  node_now : node_of new t ≡ Some after
  node_now =
      ap (option_and_then (node_at new)) (place_after old new t changed.names
      ∙ (there old set_up t among).place) ∙ changed.is_after

  view_now : after.server ≡ Some now → view_at new t ≡ now
  view_now is_view = view_of_node new t after now node_now is_view

  configured_now : after.server ≡ Some now → IsConfigured now → (u : Name) → IsAmong old.names u
      → IsConfigured (view_at new u)
  configured_now is_view configured u one = by (tell u t)
    where
      by : Telling u t → IsConfigured (view_at new u)
      by (alike _ e) = subst IsConfigured (sym (ap (view_at new) e ∙ view_now is_view)) configured
      by (unlike _ two) = subst IsConfigured (sym (other_view u two)) (set_up.configured u one)

  pub set_up_after : after.server ≡ Some now → IsConfigured now → IsSetUpAfter t now after old new
  set_up_after is_view configured = record {
    set_up = record {
      named = changed.named ∙ set_up.named ∙ ap (map Some) (sym changed.names);
      once = λ u one. ap (λ (all : List Name). count_by (same u) all) changed.names
          ∙ set_up.once u (subst (λ all. IsAmong all u) changed.names one);
      few = subst (λ all. length all ≤ max_servers) (sym changed.names) set_up.few;
      configured = λ u one. configured_now is_view configured u
          (subst (λ all. IsAmong all u) changed.names one);
    };
    node = node_now;
    state = view_now is_view;
    other_nodes = other_node;
    other_views = other_view;
  }
