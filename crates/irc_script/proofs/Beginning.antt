-- The network that is made of a script's configurations is the first one.
use Rattle.std.proofs.Common.{◌≡◌, ℕ, ◌+◌, ◌<◌, suc, true, false, not, Some, length, arith}
use Rattle.std.proofs.Common.{slice_index_or, List, [], ◌∷◌, map, ap, subst, refl, ◌∙◌}
use Rattle.std.proofs.lemmas.List.Elements.{All-from_recursion, recursion_from_All}
use Rattle.std.proofs.lemmas.List.Sorted.{All-permutation, IsPermutation-map, IsPermutation-sym}
use Rattle.std.proofs.lemmas.List.Sorted.{IsPermutation-trans}
use Rattle.std.specs.FinMap.{empty}
use Rattle.std.specs.List.{AllByRecursion}
use Rattle.std.specs.Cmp.Lexicographic.{slice_cmp}
use Rattle.std.specs.List.Sorted.{IsPermutation, IsSortedByKey}
use Rattle.std.specs.Ordering.{is_lt, nat_cmp}
use Rattle.std.specs.declared.cmp.Ordering.{Ordering}
use Rattle.std.specs.declared.cmp.Ordering.TheVariants.{Less, Equal, Greater}
use Rattle.std.proofs.lemmas.Bool.{and_from, or_from}
use Rattle.irc_net.specs.ByteNetwork.{ByteNetwork}
use Rattle.irc_net.specs.Whole.{no_pipes}
use Rattle.irc_net.specs.Making.{IsMadeOf, config_name, everywhere, new_node}
use Rattle.irc_net.specs.Network.{Network, Node}
use Rattle.irc_relay.specs.Links.{Name}
use Rattle.irc_routes.specs.About.{serves}
use Rattle.irc_routes.specs.Known.{Known, alone_known}
use Rattle.irc_routes.specs.declared.programs.Programs.TheVariants.{Off}
use Rattle.irc_room.specs.Laws.{no_room}
use Rattle.irc_net.specs.config.Config.{Config}
use Rattle.irc_net.specs.View.{KnownPeer, known_peer}
use Rattle.irc_script.specs.Loops.Configs.{AreConfigured, IsOwnConfig}
use Rattle.irc_script.specs.Networks.{exceeds, first_net, first_node, in_name_order, is_greater}
use Rattle.irc_script.specs.Networks.{script_about}
use Rattle.irc_script.specs.RunLaws.{are_ordered}
use Rattle.irc_script.proofs.InOrder.{exceeds_one, is_in_order, none_less}
use Rattle.irc_script.proofs.InOrder.{none_less_too, one_order, order_moves, turned}

not_exceeds : (x y : Name) → is_lt (slice_cmp nat_cmp y x) ≡ false → exceeds x y ≡ false
not_exceeds x y is = by (slice_cmp nat_cmp y x) refl is
  where
    by : (o : Ordering) → slice_cmp nat_cmp y x ≡ o → is_lt o ≡ false → exceeds x y ≡ false
    by Less same less = cc less
    by Equal same less = ap is_greater (turned y x Equal same)
    by Greater same less = ap is_greater (turned y x Greater same)

shifted : (config : Config) (configs : List Config) → IsSortedByKey config_name (slice_cmp nat_cmp)
    (config ∷ configs) → IsSortedByKey config_name (slice_cmp nat_cmp) configs
shifted config configs sorted k d low high =
    subst (λ n. is_lt (slice_cmp nat_cmp (config_name (slice_index_or (config ∷ configs) n d))
    (config_name (slice_index_or configs k d))) ≡ false) (moved k)
    (sorted (suc k) d (omega arith) (further k (length configs) high))
  where
    moved : (n : ℕ) → suc n + 1 ≡ suc (n + 1)
    moved n = omega arith

    further : (n m : ℕ) → n + 1 < m → suc n + 1 < suc m
    further n m high = omega (arith, high)

two : (n : ℕ) → 0 + 1 < suc (suc n)
two n = omega arith

names_in_order : (configs : List Config) → IsSortedByKey config_name (slice_cmp nat_cmp) configs
    → are_ordered (map config_name configs) ≡ true
names_in_order [] sorted = refl
names_in_order (config ∷ []) sorted = refl
names_in_order (config ∷ next ∷ configs) sorted =
    let rest = names_in_order (next ∷ configs) (shifted config (next ∷ configs) sorted) in
    let first = not_exceeds (config_name config) (config_name next)
    (sorted 0 config (omega arith) (two (length configs))) in
    and_from (not (exceeds_one (config_name config) (map config_name (next ∷ configs))))
    (are_ordered (map config_name (next ∷ configs)))
    (ap not (or_from (exceeds (config_name config) (config_name next))
    (exceeds_one (config_name config) (map config_name configs)) first
    (none_less_too (config_name config) (config_name next) (map config_name configs) first
    (none_less (config_name next) (map config_name configs) rest)))) rest

abbrev node_of : Known → List KnownPeer → Node
node_of routes peers = record {
  server = Some (record {
    routes = routes;
    peers = peers;
    ends = empty;
    clients = empty;
    room = no_room;
  });
  queues = empty;
}

node_is : (names : List Name) (config : Config) → IsOwnConfig names config
    → new_node (everywhere Off) config ≡ first_node names (config_name config)
node_is names config own =
    ap (λ about. node_of (alone_known (config_name config) (serves Off about))
    (map known_peer config.peers.items)) own.about
    ∙ ap (node_of (alone_known (config_name config) script_about)) own.peers

nodes_are : (names : List Name) (configs : List Config) → AllByRecursion (IsOwnConfig names) configs
    → map (new_node (everywhere Off)) configs ≡ map (first_node names) (map config_name configs)
nodes_are names [] all = refl
nodes_are names (config ∷ configs) all =
    ap (λ node. node ∷ map (new_node (everywhere Off)) configs) (node_is names config all.0)
    ∙ ap (λ nodes. first_node names (config_name config) ∷ nodes) (nodes_are names configs all.1)

abbrev with_names : List Name → List Node → Network
with_names names nodes = record {
  names = names;
  nodes = nodes;
  links = [];
  homes = [];
  received = [];
  items = [];
  taken = 0;
}

pub made_first : (names : List Name) (configs : List Config) (net : ByteNetwork)
    → AreConfigured names names configs → IsMadeOf (everywhere Off) configs net → net ≡ first_net names
made_first names configs net are made =
    let named : IsPermutation names (map config_name made.ordered) =
    subst (λ ns. IsPermutation ns (map config_name made.ordered)) are.named
    (IsPermutation-map config_name configs made.ordered made.same_ones) in
    let ordered : map config_name made.ordered ≡ in_name_order names =
    one_order (map config_name made.ordered) (in_name_order names)
    (IsPermutation-trans (map config_name made.ordered) names (in_name_order names)
    (IsPermutation-sym names (map config_name made.ordered) named) (order_moves names))
    (names_in_order made.ordered made.in_order) (is_in_order names) in
    let all : AllByRecursion (IsOwnConfig names) made.ordered =
    recursion_from_All (IsOwnConfig names) made.ordered
    (All-permutation (IsOwnConfig names) configs made.ordered made.same_ones
    (All-from_recursion (IsOwnConfig names) configs are.each)) in
    made.network_is ∙ ap (λ nodes. no_pipes (with_names (map config_name made.ordered) nodes))
    (nodes_are names made.ordered all)
    ∙ ap (λ ns. no_pipes (with_names ns (map (first_node names) ns))) ordered
