-- The network with which a script begins is new.
use Rattle.std.proofs.Common.{◌≡◌, ◌≤◌, ◌<◌, ◌+◌, ℕ, zero, suc, Bool, true, false, true≢false, ◌&&◌}
use Rattle.std.proofs.Common.{◌||◌, not, cond, nat_lt, Option, Some, None, is_some, unwrap_or, List}
use Rattle.std.proofs.Common.{[], ◌∷◌, ◌++◌, codes, refl, sym, ◌∙◌, ap, subst, arith, length, map}
use Rattle.std.proofs.Common.{count_by, if◌then◌else◌, add-one-le}
use Rattle.std.proofs.lemmas.Bool.{ltb-true, or_parts}
use Rattle.std.proofs.lemmas.List.{length-append}
use Rattle.std.proofs.lemmas.List.Elements.{All-from_recursion, recursion_from_All}
use Rattle.std.proofs.lemmas.List.Folds.{list_any-append}
use Rattle.std.proofs.lemmas.List.Quantifiers.{position-Some}
use Rattle.std.proofs.lemmas.List.Sorted.{All-permutation, length_permutation}
use Rattle.std.proofs.lemmas.List.Sorted.{list_any-IsPermutation, sum_by-IsPermutation}
use Rattle.std.proofs.lemmas.List.Sums.{sum_by-append, sum_by-cons}
use Rattle.std.specs.FinMap.{empty}
use Rattle.std.specs.List.{cons_option, list_any, slice_get, AllByRecursion}
use Rattle.std.specs.List.Sorted.{IsPermutation}
use Rattle.std.specs.Option.{option_and_then, option_to_list}
use Rattle.std.specs.Str.{bytes_eq}
use Rattle.irc_net.specs.SetUp.{named_at, no_view, view_at, HasPassword, IsConfigured, IsNew}
use Rattle.irc_net.specs.SetUp.{IsNewServer}
use Rattle.irc_net.specs.ItemLemmas.SetUpFacts.{placed_if}
use Rattle.irc_names.specs.Names.{IsServer, is_server}
use Rattle.irc_net.specs.Network.{Node, server_place, node_at}
use Rattle.irc_relay.specs.Distances.{IsAmong}
use Rattle.irc_relay.specs.Links.{Name, same}
use Rattle.irc_relay.specs.Lemmas.TellingNames.{Telling, alike, unlike, tell}
use Rattle.irc_net.specs.View.{View}
use Rattle.irc_script.specs.Limits.{max_script_servers}
use Rattle.irc_script.specs.Networks.{first_network, first_node, first_view, in_name_order}
use Rattle.irc_script.specs.Networks.{peers_for, script_password}
use Rattle.irc_script.specs.Scripts.{Cut, another_server, cut_at_space, if_another, is_word}
use Rattle.irc_script.specs.Scripts.{named_in, server_declared, servers_behind, servers_of}
use Rattle.irc_script.proofs.InOrder.{order_moves}

-- ---- the servers that a script names

-- names of servers, none of them twice, and not too many
pub record AreServers (names : List Name) : Type 0 where
  pub each : AllByRecursion IsServer names
  pub once : (server : Name) → IsAmong names server → count_by (same server) names ≡ 1
  pub few : length names ≤ max_script_servers

none_named : AreServers []
none_named =
    record { each = tt; once = λ server among. absurd (true≢false (sym among)); few = omega arith }

counted : (server first : Name) (names : List Name) (b : Bool) → same server first ≡ b
    → count_by (same server) (first ∷ names) ≡ cond b 1 0 + count_by (same server) names
counted server first names b is =
    sum_by-cons (λ x. cond (same server x) 1 0) first names
    ∙ ap (λ c. cond c 1 0 + count_by (same server) names) is

-- a name that is not there is counted nowhere
none_counted : (server : Name) (names : List Name) → list_any (same server) names ≡ false
    → count_by (same server) names ≡ 0
none_counted server [] none = refl
none_counted server (first ∷ names) none =
    uncounted (count_by (same server) names) (count_by (same server) (first ∷ names))
    (counted server first names false parts.0)
    (none_counted server names parts.1)
  where
    parts : (same server first ≡ false) × (list_any (same server) names ≡ false)
    parts = or_parts (same server first) (list_any (same server) names) none

    uncounted : (k n : ℕ) → n ≡ 0 + k → k ≡ 0 → n ≡ 0
    uncounted k n is none = omega (arith, is, none)

counted_behind : (server : Name) (names : List Name) (name : Name) (b : Bool) → same server name ≡ b
    → count_by (same server) (names ++ name ∷ []) ≡ count_by (same server) names + (cond b 1 0 + 0)
counted_behind server names name b is =
    sum_by-append (λ x. cond (same server x) 1 0) names (name ∷ [])
    ∙ ap (λ n. count_by (same server) names + n) (counted server name [] b is)

all_behind : (names : List Name) (name : Name) → AllByRecursion IsServer names → IsServer name
    → AllByRecursion IsServer (names ++ name ∷ [])
all_behind [] name all is = (is, tt)
all_behind (first ∷ names) name all is = (all.0, all_behind names name all.1 is)

-- a name that is named behind others
record IsNext (names : List Name) (name : Name) : Type 0 where
  server : IsServer name
  another : list_any (same name) names ≡ false
  room : length names < max_script_servers

one_named : (names : List Name) (name : Name) → AreServers names → IsNext names name
    → AreServers (names ++ name ∷ [])
one_named names name are next = record {
  each = all_behind names name are.each next.server;
  once = λ server among. by server among (tell server name);
  few = subst (λ n. n ≤ max_script_servers) (sym (length-append names (name ∷ [])))
      (add-one-le next.room);
}
  where
    last : (k n : ℕ) → n ≡ k + (1 + 0) → k ≡ 0 → n ≡ 1
    last k n is none = omega (arith, is, none)

    earlier : (k n : ℕ) → n ≡ k + (0 + 0) → k ≡ 1 → n ≡ 1
    earlier k n is once = omega (arith, is, once)

    only : (a b : Bool) → (a || (b || false)) ≡ true → b ≡ false → a ≡ true
    only true b is none = refl
    only false true is none = cc none
    only false false is none = cc is

    by : (server : Name) → IsAmong (names ++ name ∷ []) server → Telling server name
        → count_by (same server) (names ++ name ∷ []) ≡ 1
    by server among (alike is e) =
        last (count_by (same server) names) (count_by (same server) (names ++ name ∷ []))
        (counted_behind server names name true is)
        (none_counted server names (ap (λ n. list_any (same n) names) e ∙ next.another))
    by server among (unlike is two) =
        earlier (count_by (same server) names) (count_by (same server) (names ++ name ∷ []))
        (counted_behind server names name false is)
        (are.once server (only (list_any (same server) names) (same server name)
        (sym (list_any-append (same server) names (name ∷ [])) ∙ among) is))

-- what a line names is a server's name
named_server : (name : Name) (cut : Option Cut) → option_and_then named_in cut ≡ Some name
    → IsServer name
named_server name None is = cc is
named_server name (Some line) is =
    by (is_word line.before (codes "server")) (is_server line.behind) refl is
  where
    by : (a b : Bool) → is_server line.behind ≡ b
        → (if a && b then Some line.behind else None) ≡ Some name → IsServer name
    by true true so is = subst IsServer (cc is) so
    by true false so is = cc is
    by false b so is = cc is

next_named : (names : List Name) (name : Name) (found : Option Name) → option_and_then
    (if_another names) found ≡ Some name → (found ≡ Some name → IsServer name) → IsNext names name
next_named names name None is server = absurd (cc is)
next_named names name (Some other) is server =
    by (nat_lt (length names) max_script_servers) refl (list_any (bytes_eq other) names) refl is
  where
    by : (room : Bool) → nat_lt (length names) max_script_servers ≡ room
        → (there : Bool) → list_any (bytes_eq other) names ≡ there
        → (if room && not there then Some other else None) ≡ Some name → IsNext names name
    by true room false there is =
        let same_one : other ≡ name = cc is in
        record {
          server = server (ap Some same_one);
          another = ap (λ n. list_any (bytes_eq n) names) (sym same_one) ∙ there;
          room = ltb-true (length names) max_script_servers room;
        }
    by true room true there is = absurd (cc is)
    by false room there_so there is = absurd (cc is)

named_behind : (lines : List (List ℕ)) (names : List Name) → AreServers names
    → AreServers (servers_behind names lines)
unfolding servers_behind
named_behind [] names are = are
named_behind (line ∷ lines) names are = by (another_server names line) refl (named_behind lines)
  where
    by : (o : Option Name) → another_server names line ≡ o
        → ((more : List Name) → AreServers more → AreServers (servers_behind more lines))
        → AreServers (if is_some (another_server names line) then servers_behind
        (names ++ option_to_list (another_server names line)) lines else names)
    by None is rest = subst (λ o. AreServers (if is_some o
        then servers_behind (names ++ option_to_list o) lines else names)) (sym is) are
    by (Some name) is rest = subst (λ o. AreServers
        (if is_some o then servers_behind (names ++ option_to_list o) lines else names)) (sym is)
        (rest (names ++ name ∷ []) (one_named names name are (next_named names name
        (server_declared line) is (named_server name (cut_at_space line)))))

pub servers_named : (lines : List (List ℕ)) → AreServers (servers_of lines)
servers_named lines = named_behind lines [] none_named

-- ---- in their order

in_order_too : (names : List Name) → AreServers names → AreServers (in_name_order names)
in_order_too names are = record {
  each = recursion_from_All IsServer (in_name_order names) (All-permutation IsServer names
      (in_name_order names) moves (All-from_recursion IsServer names are.each));
  once = λ server among. sum_by-IsPermutation (λ x. cond (same server x) 1 0) names
      (in_name_order names) moves
      ∙ are.once server (list_any-IsPermutation (same server) names (in_name_order names) moves
      ∙ among);
  few = subst (λ n. n ≤ max_script_servers)
      (sym (length_permutation names (in_name_order names) moves)) are.few;
}
  where
    moves : IsPermutation names (in_name_order names)
    moves = order_moves names

-- ---- each of them

all_passwords : (server : Name) (names : List Name)
    → AllByRecursion HasPassword (peers_for server names)
all_passwords server [] = tt
all_passwords server (other ∷ names) = by (same other server) (all_passwords server names)
  where
    by : (b : Bool) → AllByRecursion HasPassword (peers_for server names)
        → AllByRecursion HasPassword (cons_option (if b then None else Some
        (record { name = other; password = script_password })) (peers_for server names))
    by true rest = rest
    by false rest = (refl, rest)

configured : (names : List Name) (server : Name) → IsServer server
    → IsConfigured (first_view names server)
configured names server is =
    record {
      name = is;
      about = record { info = refl; created = omega arith };
      told_away = refl;
      passwords = all_passwords server names;
    }

all_configured : (names ordered : List Name) → AllByRecursion IsServer ordered
    → AllByRecursion (λ (server : Name). IsConfigured (first_view names server)) ordered
all_configured names [] all = tt
all_configured names (server ∷ ordered) all =
    (configured names server all.0, all_configured names ordered all.1)

all_new : (names ordered : List Name)
    → AllByRecursion (λ (server : Name). IsNewServer (first_view names server)) ordered
all_new names [] = tt
all_new names (server ∷ ordered) = (
  record {
    no_rows = refl;
    no_ends = refl;
    no_clients = refl;
    nobody = refl;
  },
  all_new names ordered,
)

nodes_named : (names ordered : List Name)
    → map named_at (map (first_node names) ordered) ≡ map Some ordered
nodes_named names [] = refl
nodes_named names (server ∷ ordered) =
    ap (λ servers. Some server ∷ servers) (nodes_named names ordered)

none_queued : (names ordered : List Name)
    → AllByRecursion (λ (node : Node). node.queues ≡ empty) (map (first_node names) ordered)
none_queued names [] = tt
none_queued names (server ∷ ordered) = (refl, none_queued names ordered)

-- what is so of each server at a place is so of the one of each name
at_place : (P : View → Type 0) (names ordered : List Name) (place : ℕ)
    → AllByRecursion (λ (server : Name). P (first_view names server)) ordered
    → place < length ordered → P (unwrap_or (option_and_then (λ (node : Node). node.server)
    (slice_get (map (first_node names) ordered) place)) no_view)
at_place P names [] place all within = absurd (omega (arith, within))
at_place P names (server ∷ ordered) zero all within = all.0
at_place P names (server ∷ ordered) (suc place) all within =
    at_place P names ordered place all.1 (omega (arith, within))

-- the server at a place that was found
abbrev seen : List Name → Option ℕ → View
seen names o = unwrap_or (option_and_then (λ (node : Node). node.server)
    (option_and_then (node_at (first_network names)) o)) no_view

at_name : (P : View → Type 0) (names : List Name) (server : Name)
    → AllByRecursion (λ (server : Name). P (first_view names server)) (in_name_order names)
    → IsAmong (in_name_order names) server → P (view_at (first_network names) server)
at_name P names server all among = by (server_place (first_network names) server) refl
  where
    by : (o : Option ℕ) → server_place (first_network names) server ≡ o
        → P (seen names (server_place (first_network names) server))
    by None is = absurd
        (true≢false (sym (sym (ap is_some is) ∙ placed_if (in_name_order names) server ∙ among)))
    by (Some place) is = subst (λ o. P (seen names o)) (sym is)
        (at_place P names (in_name_order names) place all (position-Some
        (λ (known : Name). same known server) (in_name_order names) place [] is).0)

few_servers : (n : ℕ) → n ≤ max_script_servers → n ≤ 256
unfolding max_script_servers
few_servers n few = few

pub first_is_new : (names : List Name) → AreServers names → IsNew (first_network names)
first_is_new names are = record {
  set_up = record {
    named = nodes_named names (in_name_order names);
    once = ordered.once;
    few = few_servers (length (in_name_order names)) ordered.few;
    configured = λ server among. at_name IsConfigured names server
        (all_configured names (in_name_order names) ordered.each) among;
  };
  servers =
      λ server among. at_name IsNewServer names server (all_new names (in_name_order names)) among;
  queues = none_queued names (in_name_order names);
  links = refl;
  homes = refl;
  received = refl;
  items = refl;
  taken = refl;
}
  where
    ordered : AreServers (in_name_order names)
    ordered = in_order_too names are
