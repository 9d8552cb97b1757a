-- What is so of a network whose servers are there under their names.
use Rattle.std.proofs.Common.{◌≡◌, ◌≢◌, ℕ, zero, suc, ◌+◌, ◌<◌, Bool, true, false, cond, not, ◌||◌}
use Rattle.std.proofs.Common.{Option, Some, None, is_some, unwrap_or, List, [], ◌∷◌, map, length}
use Rattle.std.proofs.Common.{count_by, refl, sym, ◌∙◌, ap, subst, arith, ltb, ◌≤◌, if◌then◌else◌}
use Rattle.std.proofs.Common.{le_of_eq, one-add}
use Rattle.std.proofs.lemmas.Bool.{le-ltb, lt-ltb, or_parts}
use Rattle.std.proofs.lemmas.List.{length-map}
use Rattle.std.proofs.lemmas.List.Sums.{sum_by-cons}
use Rattle.std.proofs.lemmas.Option.{slice_get-map, slice_get_past, same_Some, none-some}
use Rattle.std.specs.List.{cons_option, filter_map, list_any, position_or_len, slice_get}
use Rattle.std.specs.Option.{option_and_then, option_map, option_map_or}
use Rattle.std.proofs.Math.Bool.{or-true}
use Rattle.irc_forest.specs.Forests.{place_in as place_found}
use Rattle.irc_relay.specs.Distances.{IsAmong}
use Rattle.irc_relay.specs.Links.{Name, same}
use Rattle.irc_relay.specs.Lemmas.TellingNames.{Telling, alike, unlike, tell, same_unless}
use Rattle.irc_relay.specs.Lemmas.TellingNames.{same_when}
use Rattle.irc_relay.specs.Relay.{Streams}
use Rattle.irc_routes.specs.About.{About, says_nothing}
use Rattle.irc_routes.specs.Info.{IsInfo}
use Rattle.irc_stage.specs.View.{View}
use Rattle.irc_names.specs.Names.{IsServer}
use Rattle.irc_world.specs.WithinLimits.{AreNamed}
use Rattle.irc_world.specs.World.{Setting, is_server, setting_of}
use Rattle.irc_follow.specs.SideState.{IsItemSetting, about_in}
use Rattle.irc_follow.specs.Tree.{index_in}
use Rattle.irc_network.specs.Network.{Network, Node, server_place, node_at, node_of, node_view}
use Rattle.irc_items.specs.Relayed.{setting_of_item}
use Rattle.irc_items.specs.SetUp.{named_at, no_view, setting_at, setting_now, settings_of, view_at}
use Rattle.irc_items.specs.SetUp.{IsSetUp}
use Rattle.irc_items.specs.Sound.{IsPlaceOf}

-- ---- places among names

place_is : (first a : Name) (names : List Name) (b : Bool) → same first a ≡ b
    → index_in (first ∷ names) a ≡ (if b then 0 else suc (index_in names a))
place_is first a names b is = ap (λ c. if c then 0 else suc (index_in names a)) is

-- a name that is there, at its place
pub record IsPlaced (names : List Name) (a : Name) : Type 0 where
  pub is_there : slice_get names (index_in names a) ≡ Some a
  pub within : index_in names a < length names

pub placed : (names : List Name) (a : Name) → IsAmong names a → IsPlaced names a
placed [] a among = cc among
placed (first ∷ names) a among = by (tell first a) (placed names a)
  where
    later : first ≢ a → IsAmong names a
    later two = on (tell a first)
      where
        on : Telling a first → IsAmong names a
        on (alike _ e) = absurd (two (sym e))
        on (unlike z _) = sym (ap (λ c. c || list_any (same a) names) z) ∙ among

    by : Telling first a → (IsAmong names a → IsPlaced names a) → IsPlaced (first ∷ names) a
    by (alike t e) rest = record {
      is_there = ap (slice_get (first ∷ names)) (place_is first a names true t) ∙ ap Some e;
      within =
          subst (λ k. k < suc (length names)) (sym (place_is first a names true t)) (omega arith);
    }
    by (unlike f two) rest =
        let old = rest (later two) in
        record {
          is_there = ap (slice_get (first ∷ names)) (place_is first a names false f) ∙ old.is_there;
          within = let less = old.within in subst (λ k. k < suc (length names))
              (sym (place_is first a names false f)) (omega (arith, less));
        }

-- a name that is none has the number of all
no_place : (names : List Name) (a : Name) → list_any (same a) names ≡ false
    → index_in names a ≡ length names
no_place [] a not_among = refl
no_place (first ∷ names) a not_among = by (tell first a)
    (or_parts (same a first) (list_any (same a) names) not_among) (no_place names a)
  where
    by : Telling first a → (same a first ≡ false) × (list_any (same a) names ≡ false)
        → (list_any (same a) names ≡ false → index_in names a ≡ length names)
        → index_in (first ∷ names) a ≡ suc (length names)
    by (alike _ e) parts rest = cc (parts.0, same_when a first (sym e))
    by (unlike f _) parts rest = place_is first a names false f ∙ ap suc (rest parts.1)

-- the search of a network finds that place
as_searched : (names : List Name) (a : Name)
    → position_or_len (λ (known : Name). same known a) names ≡ index_in names a
as_searched [] a = refl
as_searched (first ∷ names) a = by (same first a) refl (as_searched names a)
  where
    by : (b : Bool) → same first a ≡ b → position_or_len (λ (known : Name). same known a) names
        ≡ index_in names a → position_or_len (λ (known : Name). same known a) (first ∷ names)
        ≡ index_in (first ∷ names) a
    by true is rest =
        ap (λ b. cond (not b) (1 + position_or_len (λ (known : Name). same known a) names) 0) is
        ∙ sym (place_is first a names true is)
    by false is rest =
        ap (λ b. cond (not b) (1 + position_or_len (λ (known : Name). same known a) names) 0) is
        ∙ one-add (position_or_len (λ (known : Name). same known a) names) ∙ ap suc rest
        ∙ sym (place_is first a names false is)

found : (names : List Name) (a : Name) → place_found names a
    ≡ cond (ltb (index_in names a) (length names)) (Some (index_in names a)) None
found names a = ap (λ k. cond (ltb k (length names)) (Some k) None) (as_searched names a)

found_there : (names : List Name) (a : Name) → IsAmong names a
    → place_found names a ≡ Some (index_in names a)
found_there names a among =
    found names a ∙ ap (λ b. cond b (Some (index_in names a)) None)
    (lt-ltb (index_in names a) (length names) (placed names a among).within)

found_nowhere : (names : List Name) (a : Name) → list_any (same a) names ≡ false
    → place_found names a ≡ None
found_nowhere names a not_among =
    found names a
    ∙ ap (λ b. cond b (Some (index_in names a)) None)
    (le-ltb (index_in names a) (length names)
    (not_less (index_in names a) (length names) (no_place names a not_among)))
  where
    not_less : (k n : ℕ) → k ≡ n → n ≤ k
    not_less k n e = omega (arith, e)

-- a name has a place where it is there
pub placed_if : (names : List Name) (a : Name)
    → is_some (place_found names a) ≡ list_any (same a) names
placed_if names a = by (list_any (same a) names) refl
  where
    by : (b : Bool) → list_any (same a) names ≡ b → is_some (place_found names a) ≡ b
    by true among = ap is_some (found_there names a among)
    by false not_among = ap is_some (found_nowhere names a not_among)

-- ---- the server of a name

abbrev some_name : Name → Option Name
some_name name = Some name

-- nodes stand in the order of the names
named_here : (net : Network) → IsSetUp net → (place : ℕ)
    → option_map named_at (node_at net place) ≡ option_map some_name (slice_get net.names place)
named_here net set_up place =
    sym (slice_get-map named_at net.nodes place) ∙ ap (λ xs. slice_get xs place) set_up.named
    ∙ slice_get-map some_name net.names place

seen_there : (net : Network) (server : Name) → IsAmong net.names server → (node : Node)
    → node_at net (index_in net.names server) ≡ Some node → (view : View) → node.server ≡ Some view
    → view_at net server ≡ view
seen_there net server among node at view is =
    ap (λ o. unwrap_or (option_and_then (λ (s : Node). s.server) (option_and_then (node_at net) o))
    no_view) (found_there net.names server among)
    ∙ ap (λ o. unwrap_or (option_and_then (λ (s : Node). s.server) o) no_view) at
    ∙ ap (λ o. unwrap_or o no_view) is

-- the server of a name, at its place
pub record IsThere (net : Network) (server : Name) : Type 0 where
  pub node : Node
  pub place : server_place net server ≡ Some (index_in net.names server)
  pub within : index_in net.names server < length net.names
  pub is_node : node_at net (index_in net.names server) ≡ Some node
  pub is_view : node.server ≡ Some (view_at net server)
  pub named : (view_at net server).routes.name ≡ server

pub there : (net : Network) → IsSetUp net → (server : Name) → IsAmong net.names server
    → IsThere net server
there net set_up server among = by_node (node_at net (index_in net.names server)) refl
  where
    given : option_map named_at (node_at net (index_in net.names server)) ≡ Some (Some server)
    given = named_here net set_up (index_in net.names server)
        ∙ ap (option_map some_name) (placed net.names server among).is_there

    of_view : (node : Node) → node_at net (index_in net.names server) ≡ Some node → (view : View)
        → node.server ≡ Some view → IsThere net server
    of_view node at view is =
        let seen : view_at net server ≡ view = seen_there net server among node at view is in
        record {
          node = node;
          place = found_there net.names server among;
          within = (placed net.names server among).within;
          is_node = at;
          is_view = is ∙ ap Some (sym seen);
          named = ap (λ (v : View). v.routes.name) seen
              ∙ same_Some _ _ (same_Some _ _ (sym (ap (option_map named_at) at
              ∙ ap (λ o. Some (option_map (λ (v : View). v.routes.name) o)) is) ∙ given));
        }

    by_view : (node : Node) → node_at net (index_in net.names server) ≡ Some node
        → (o : Option View) → node.server ≡ o → IsThere net server
    by_view node at (Some view) is = of_view node at view is
    by_view node at None is =
        absurd (none-some _ (same_Some _ _ (sym (ap (option_map named_at) at
        ∙ ap (λ o. Some (option_map (λ (v : View). v.routes.name) o)) is) ∙ given)))

    by_node : (o : Option Node) → node_at net (index_in net.names server) ≡ o → IsThere net server
    by_node (Some node) at = by_view node at node.server refl
    by_node None at = absurd (none-some _ (sym (ap (option_map named_at) at) ∙ given))

-- what is found under its name
pub viewed : (net : Network) → IsSetUp net → (server : Name) → IsAmong net.names server
    → node_view net server ≡ Some (view_at net server)
viewed net set_up server among =
    let here = there net set_up server among in
    ap (λ o. option_and_then (λ (s : Node). s.server) (option_and_then (node_at net) o)) here.place
    ∙ ap (option_and_then (λ (s : Node). s.server)) here.is_node
    ∙ here.is_view

-- a name that is none
pub nowhere : (net : Network) (server : Name) → list_any (same server) net.names ≡ false
    → node_of net server ≡ None
nowhere net server not_among =
    ap (option_and_then (node_at net)) (found_nowhere net.names server not_among)

pub among_at : (names : List Name) (a : Name) (place : ℕ) → slice_get names place ≡ Some a
    → IsAmong names a
among_at [] a place is = absurd (none-some _ is)
among_at (first ∷ names) a zero is =
    ap (λ b. b || list_any (same a) names) (same_when a first (sym (same_Some _ _ is)))
among_at (first ∷ names) a (suc place) is =
    ap (λ b. same a first || b) (among_at names a place is) ∙ or-true (same a first)

counted_once : (names : List Name) (a : Name) → IsAmong names a → 0 < count_by (same a) names
counted_once [] a among = cc among
counted_once (first ∷ names) a among = by (same a first) refl (counted_once names a)
  where
    step : (b : Bool) → same a first ≡ b
        → count_by (same a) (first ∷ names) ≡ cond b 1 0 + count_by (same a) names
    step b is = sum_by-cons (λ x. cond (same a x) 1 0) first names
        ∙ ap (λ c. cond c 1 0 + count_by (same a) names) is

    one : (n k : ℕ) → n ≡ 1 + k → 0 < n
    one n k e = omega (arith, e)

    none : (n k : ℕ) → n ≡ 0 + k → 0 < k → 0 < n
    none n k e less = omega (arith, e, less)

    by : (b : Bool) → same a first ≡ b → (IsAmong names a → 0 < count_by (same a) names)
        → 0 < count_by (same a) (first ∷ names)
    by true is rest =
        one (count_by (same a) (first ∷ names)) (count_by (same a) names) (step true is)
    by false is rest =
        none (count_by (same a) (first ∷ names)) (count_by (same a) names) (step false is)
        (rest (sym (ap (λ c. c || list_any (same a) names) is) ∙ among))

-- a name that is there once is at one place
pub only_place : (names : List Name) (a : Name) (place : ℕ) → count_by (same a) names ≡ 1
    → slice_get names place ≡ Some a → index_in names a ≡ place
only_place [] a place once is = absurd (none-some _ is)
only_place (first ∷ names) a zero once is =
    place_is first a names true (same_when first a (same_Some _ _ is))
only_place (first ∷ names) a (suc place) once is = by (tell first a) (only_place names a place)
  where
    step : (b : Bool) → same a first ≡ b
        → count_by (same a) (first ∷ names) ≡ cond b 1 0 + count_by (same a) names
    step b e = sum_by-cons (λ x. cond (same a x) 1 0) first names
        ∙ ap (λ c. cond c 1 0 + count_by (same a) names) e

    twice : {A : Type 0} (n k : ℕ) → n ≡ 1 + k → n ≡ 1 → 0 < k → A
    twice n k e one more = absurd (omega (arith, e, one, more))

    as_many : (n k : ℕ) → n ≡ 0 + k → n ≡ 1 → k ≡ 1
    as_many n k e one = omega (arith, e, one)

    by : Telling first a → (count_by (same a) names ≡ 1 → slice_get names place ≡ Some a
        → index_in names a ≡ place) → index_in (first ∷ names) a ≡ suc place
    by (alike t e) rest =
        twice (count_by (same a) (first ∷ names)) (count_by (same a) names)
        (step true (same_when a first (sym e))) once
        (counted_once names a (among_at names a place is))
    by (unlike f two) rest =
        place_is first a names false f
        ∙ ap suc (rest (as_many (count_by (same a) (first ∷ names)) (count_by (same a) names)
        (step false (same_unless a first (λ e. two (sym e)))) once) is)

pub viewed_nowhere : (net : Network) (server : Name) → list_any (same server) net.names ≡ false
    → node_view net server ≡ None
viewed_nowhere net server not_among =
    ap (option_and_then (λ (node : Node). node.server)) (nowhere net server not_among)

-- each node is at the place of a server
pub at_place : (net : Network) → IsSetUp net → (place : ℕ) (node : Node)
    → node_at net place ≡ Some node → IsPlaceOf net place
at_place net set_up place node is_node = by (slice_get net.names place) refl
  where
    given : Some (named_at node) ≡ option_map some_name (slice_get net.names place)
    given = sym (ap (option_map named_at) is_node) ∙ named_here net set_up place

    by : (o : Option Name) → slice_get net.names place ≡ o → IsPlaceOf net place
    by (Some server) is = record {
      server = server;
      among = among_at net.names server place is;
      is = only_place net.names server place
          (set_up.once server (among_at net.names server place is)) is;
    }
    by None is = absurd (none-some _ (sym (given ∙ ap (option_map some_name) is)))

one_head : {X : Type 0} {x y : X} {xs ys : List X} → x ∷ xs ≡ y ∷ ys → x ≡ y
one_head e = cc e

one_tail : {X : Type 0} {x y : X} {xs ys : List X} → x ∷ xs ≡ y ∷ ys → xs ≡ ys
one_tail e = cc e

-- the settings stand in the order of the names, too
setting_found : (nodes : List Node) (names : List Name) (server : Name)
    → map named_at nodes ≡ map some_name names → setting_of (filter_map setting_at nodes) server
    ≡ option_and_then setting_at (slice_get nodes (index_in names server))
setting_found [] names server named = refl
setting_found (node ∷ nodes) [] server named = absurd (cc named)
setting_found (node ∷ nodes) (first ∷ names) server named =
    by node.server refl (setting_found nodes names server (one_tail named))
  where
    rest_is : Type 0
    rest_is = setting_of (filter_map setting_at nodes) server ≡ option_and_then setting_at
        (slice_get nodes (index_in names server))

    head : named_at node ≡ Some first
    head = one_head named

    at_first : (view : View) → node.server ≡ Some view
        → (b : Bool) → same first server ≡ b → rest_is
        → cond b (Some (setting_now view)) (setting_of (filter_map setting_at nodes) server)
        ≡ option_and_then setting_at
        (slice_get (node ∷ nodes) (if b then 0 else suc (index_in names server)))
    at_first view is true e rest = sym (ap (option_map setting_now) is)
    at_first view is false e rest = rest

    by : (o : Option View) → node.server ≡ o → rest_is
        → setting_of (filter_map setting_at (node ∷ nodes)) server ≡ option_and_then setting_at
        (slice_get (node ∷ nodes) (index_in (first ∷ names) server))
    by (Some view) is rest =
        ap (λ o. setting_of
        (cons_option (option_map setting_now o) (filter_map setting_at nodes)) server) is
        ∙ ap (λ name. cond (same name server) (Some (setting_now view))
        (setting_of (filter_map setting_at nodes) server))
        (same_Some _ _ (sym (ap (option_map (λ (v : View). v.routes.name)) is) ∙ head))
        ∙ at_first view is (same first server) refl rest
    by None is rest =
        absurd (none-some _ (sym (ap (option_map (λ (v : View). v.routes.name)) is) ∙ head))

pub setting_there : (net : Network) → IsSetUp net → (server : Name) → IsAmong net.names server
    → setting_of (settings_of net) server ≡ Some (setting_now (view_at net server))
setting_there net set_up server among =
    let here = there net set_up server among in
    setting_found net.nodes net.names server set_up.named
    ∙ ap (λ o. option_and_then setting_at o) here.is_node
    ∙ ap (option_map setting_now) here.is_view

pub listed : (net : Network) → IsSetUp net → (server : Name)
    → is_server (settings_of net) server ≡ list_any (same server) net.names
listed net set_up server = by (list_any (same server) net.names) refl
  where
    as_many : length net.nodes ≡ length net.names
    as_many = sym (length-map net.nodes named_at) ∙ ap length set_up.named
        ∙ length-map net.names some_name

    by : (b : Bool) → list_any (same server) net.names ≡ b → is_server (settings_of net) server ≡ b
    by true among = ap is_some (setting_there net set_up server among)
    by false not_among =
        ap is_some
        (setting_found net.nodes net.names server set_up.named
        ∙ ap (λ place. option_and_then setting_at (slice_get net.nodes place))
        (no_place net.names server not_among)
        ∙ ap (option_and_then setting_at) (slice_get_past net.nodes (length net.names)
        (le_of_eq as_many)))

pub servers_named : (net : Network) → IsSetUp net → AreNamed (settings_of net)
servers_named net set_up server is_one =
    let among : IsAmong net.names server = sym (listed net set_up server) ∙ is_one in
    subst (λ name. IsServer name) (there net set_up server among).named
    (set_up.configured server among).name

pub fixed : (net : Network) → IsSetUp net → (streams : Streams)
    → IsItemSetting (setting_of_item net streams)
fixed net set_up streams = record {
  servers = record {
    named = λ x among. servers_named net set_up x (listed net set_up x ∙ among);
    described = λ x among.
        subst (λ (about : About). IsInfo about.info) (sym (says x among))
        (set_up.configured x among).about.info;
  };
  few = set_up.few;
  listed = listed net set_up;
  told_away = λ x among. ap (λ (about : About). about.tells_away) (says x among)
      ∙ (set_up.configured x among).told_away;
}
  where
    -- what is said of each is what it says of itself
    says : (x : Name) → IsAmong net.names x
        → about_in (settings_of net) x ≡ (view_at net x).routes.about
    says x among = ap (λ o. option_map_or (λ (own : Setting). own.about) o says_nothing)
        (setting_there net set_up x among)
