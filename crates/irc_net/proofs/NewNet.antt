-- The network that configurations without a fault make is new.
use Rattle.std.proofs.Common.{◌≡◌, ◌≤◌, ◌<◌, ◌+◌, ℕ, zero, suc, Bool, true, false, true≢false, ◌&&◌}
use Rattle.std.proofs.Common.{◌||◌, not, cond, Option, Some, None, is_some, unwrap_or, List, []}
use Rattle.std.proofs.Common.{◌∷◌, refl, sym, ◌∙◌, ap, subst, arith, length, map}
use Rattle.std.proofs.Common.{count_by, if◌then◌else◌}
use Rattle.std.proofs.lemmas.Bool.{leb-true, or_parts, and_parts}
use Rattle.std.proofs.lemmas.List.{length-map}
use Rattle.std.proofs.lemmas.List.Quantifiers.{position-Some}
use Rattle.std.proofs.lemmas.List.Sorted.{IsPermutation-map, list_any-IsPermutation}
use Rattle.std.proofs.lemmas.List.Sorted.{sum_by-IsPermutation}
use Rattle.std.proofs.lemmas.List.Sums.{sum_by-cons}
use Rattle.std.specs.FinMap.{empty}
use Rattle.std.specs.List.{list_all, list_any, slice_get, AllByRecursion}
use Rattle.std.specs.List.Sorted.{IsPermutation}
use Rattle.std.specs.Option.{option_and_then}
use Rattle.irc_forest.specs.Forests.{Forest}
use Rattle.irc_names.specs.Limits.{max_created}
use Rattle.irc_names.specs.Names.{fits, is_server}
use Rattle.irc_link_words.specs.Passwords.{is_password}
use Rattle.irc_relay.specs.Distances.{IsAmong}
use Rattle.irc_relay.specs.Links.{Name, same}
use Rattle.irc_relay.specs.Lemmas.TellingNames.{Telling, alike, unlike, tell, same_unless}
use Rattle.irc_routes.specs.About.{About, IsAbout, about_of}
use Rattle.irc_routes.specs.declared.programs.Programs.{Programs}
use Rattle.irc_routes.specs.Info.{is_info}
use Rattle.irc_server.specs.Configuring.{has_double, is_about, is_among, is_peer, is_some_text}
use Rattle.irc_server.specs.Configuring.{served_view}
use Rattle.irc_server.specs.declared.config.Config.{Config}
use Rattle.irc_server.specs.declared.config.ConfigFault.TheVariants as one
use Rattle.irc_stage.specs.View.{View, known_peer}
use Rattle.irc_stage.specs.declared.peer.Peer.{Peer}
use Rattle.irc_network.specs.Network.{Network, Node, server_place, node_at}
use Rattle.irc_items.specs.SetUp.{named_at, no_view, view_at, HasPassword, IsConfigured, IsNew}
use Rattle.irc_items.specs.SetUp.{IsNewServer}
use Rattle.irc_items.specs.Lemmas.SetUpFacts.{placed_if}
use Rattle.irc_net.specs.Making.{config_name, configs_fault, has_name_twice, is_bad_config}
use Rattle.irc_net.specs.Making.{is_bad_name, is_config_of, made_of, new_node}
use Rattle.irc_net.proofs.Named.{ordered_few, without_fault}

-- ---- no name is there twice

counted : (server first : Name) (names : List Name) (b : Bool) → same server first ≡ b
    → count_by (same server) (first ∷ names) ≡ cond b 1 0 + count_by (same server) names
counted server first names b is =
    sum_by-cons (λ x. cond (same server x) 1 0) first names
    ∙ ap (λ c. cond c 1 0 + count_by (same server) names) is

uncounted : (k n : ℕ) → n ≡ 0 + k → k ≡ 0 → n ≡ 0
uncounted k n is none = omega (arith, is, none)

-- the name of none of these is counted among theirs
none_counted : (server : Name) (configs : List Config) → list_any (is_config_of server) configs
    ≡ false → count_by (same server) (map config_name configs) ≡ 0
none_counted server [] none = refl
none_counted server (config ∷ configs) none =
    uncounted (count_by (same server) (map config_name configs))
    (count_by (same server) (map config_name (config ∷ configs)))
    (counted server (config_name config) (map config_name configs) false
    (other (tell (config_name config) server))) (none_counted server configs parts.1)
  where
    parts : (same (config_name config) server ≡ false)
        × (list_any (is_config_of server) configs ≡ false)
    parts =
        or_parts (same (config_name config) server) (list_any (is_config_of server) configs) none

    other : Telling (config_name config) server → same server (config_name config) ≡ false
    other (alike is _) = absurd (true≢false (sym is ∙ parts.0))
    other (unlike _ two) = same_unless server (config_name config) (λ e. two (sym e))

counted_once : (configs : List Config) → has_name_twice configs ≡ false → (server : Name) → IsAmong
    (map config_name configs) server → count_by (same server) (map config_name configs) ≡ 1
counted_once [] none server among = absurd (true≢false (sym among))
counted_once (config ∷ configs) none server among =
    by (tell server (config_name config)) (counted_once configs parts.1 server)
  where
    parts : (list_any (is_config_of (config_name config)) configs ≡ false)
        × (has_name_twice configs ≡ false)
    parts = or_parts (list_any (is_config_of (config_name config)) configs)
        (has_name_twice configs) none

    first : (k n : ℕ) → n ≡ 1 + k → k ≡ 0 → n ≡ 1
    first k n is none_more = omega (arith, is, none_more)

    later : (k n : ℕ) → n ≡ 0 + k → k ≡ 1 → n ≡ 1
    later k n is once = omega (arith, is, once)

    by : Telling server (config_name config) → (IsAmong (map config_name configs) server
        → count_by (same server) (map config_name configs) ≡ 1)
        → count_by (same server) (map config_name (config ∷ configs)) ≡ 1
    by (alike is e) rest =
        first (count_by (same server) (map config_name configs))
        (count_by (same server) (map config_name (config ∷ configs)))
        (counted server (config_name config) (map config_name configs) true is)
        (none_counted server configs (ap (λ name. list_any (is_config_of name) configs) e
        ∙ parts.0))
    by (unlike is _) rest =
        later (count_by (same server) (map config_name configs))
        (count_by (same server) (map config_name (config ∷ configs)))
        (counted server (config_name config) (map config_name configs) false is)
        (rest (sym (ap (λ b. b || list_any (same server) (map config_name configs)) is) ∙ among))

-- the order of servers is no matter
ordered_once : (configs ordered : List Config) → IsPermutation configs ordered
    → has_name_twice configs ≡ false → (server : Name) → IsAmong (map config_name ordered) server
    → count_by (same server) (map config_name ordered) ≡ 1
ordered_once configs ordered ones none server among =
    sum_by-IsPermutation (λ x. cond (same server x) 1 0) (map config_name configs)
    (map config_name ordered) names
    ∙ counted_once configs none server (list_any-IsPermutation (same server)
    (map config_name configs) (map config_name ordered) names ∙ among)
  where
    names : IsPermutation (map config_name configs) (map config_name ordered)
    names = IsPermutation-map config_name configs ordered ones

-- ---- each is configured

pub record AreRules (named said peered : Bool) : Type 0 where
  pub named_so : named ≡ true
  pub said_so : said ≡ true
  pub peered_so : peered ≡ true

all_rules : (a b c twice : Bool) → is_bad_name (if not ((a && b) && c) then Some one.BadName
    else (if twice then Some one.DoubleName else None)) ≡ false → AreRules a b c
all_rules false b c twice good = absurd (true≢false good)
all_rules true false c twice good = absurd (true≢false good)
all_rules true true false twice good = absurd (true≢false good)
all_rules true true true twice good = record { named_so = refl; said_so = refl; peered_so = refl }

-- what a server says of itself keeps its limits
about_kept : (about : About) → is_about about ≡ true → IsAbout about
about_kept about so = record {
  info = parts.0;
  created = leb-true (length about.created) max_created
      (and_parts (is_some_text about.created) (fits max_created about.created) parts.1).1;
}
  where
    parts : (is_info about.info ≡ true)
        × ((is_some_text about.created && fits max_created about.created) ≡ true)
    parts = and_parts (is_info about.info)
        (is_some_text about.created && fits max_created about.created) so

passwords_kept : (peers : List Peer) → list_all is_peer peers ≡ true
    → AllByRecursion HasPassword (map known_peer peers)
passwords_kept [] all = tt
passwords_kept (peer ∷ peers) all = (
  (and_parts (is_server peer.name.items) (is_password peer.password.items) now.0).1,
  passwords_kept peers now.1,
)
  where
    now : (is_peer peer ≡ true) × (list_all is_peer peers ≡ true)
    now = and_parts (is_peer peer) (list_all is_peer peers) all

configured : (programs : Programs) (config : Config) → is_bad_config config ≡ false
    → IsConfigured (served_view programs config)
configured programs config good = record {
  name = rules.named_so;
  about = record { info = said.info; created = said.created };
  told_away = refl;
  passwords = passwords_kept config.peers.items rules.peered_so;
}
  where
    rules : AreRules (is_server config.own.name.items) (is_about (about_of config.own))
        (list_all is_peer config.peers.items)
    rules = all_rules (is_server config.own.name.items) (is_about (about_of config.own))
        (list_all is_peer config.peers.items)
        (is_among config.own.name.items config.peers.items || has_double config.peers.items) good

    said : IsAbout (about_of config.own)
    said = about_kept (about_of config.own) rules.said_so

-- the server of a configuration, as it is made
abbrev view_given : (Name → Programs) → Config → View
view_given programs config = served_view (programs (config_name config)) config

all_configured : (programs : Name → Programs) (configs : List Config)
    → list_any is_bad_config configs ≡ false
    → AllByRecursion (λ (config : Config). IsConfigured (view_given programs config)) configs
all_configured programs [] good = tt
all_configured programs (config ∷ configs) good = (
  configured (programs (config_name config)) config parts.0,
  all_configured programs configs parts.1,
)
  where
    parts : (is_bad_config config ≡ false) × (list_any is_bad_config configs ≡ false)
    parts = or_parts (is_bad_config config) (list_any is_bad_config configs) good

-- ---- each is there

module _ (programs : Name → Programs) where
  nodes_named : (configs : List Config)
      → map named_at (map (new_node programs) configs) ≡ map Some (map config_name configs)
  nodes_named [] = refl
  nodes_named (config ∷ configs) =
      ap (λ names. Some (config_name config) ∷ names) (nodes_named configs)

  none_queued : (configs : List Config)
      → AllByRecursion (λ (node : Node). node.queues ≡ empty) (map (new_node programs) configs)
  none_queued [] = tt
  none_queued (config ∷ configs) = (refl, none_queued configs)

  -- what is so of each server at a place is so of the one of each name
  made_there : (P : View → Type 0) (configs : List Config) (place : ℕ)
      → AllByRecursion (λ (config : Config). P (view_given programs config)) configs
      → place < length configs → P (unwrap_or (option_and_then (λ (node : Node). node.server)
      (slice_get (map (new_node programs) configs) place)) no_view)
  made_there P [] place all within = absurd (omega (arith, within))
  made_there P (config ∷ configs) zero all within = all.0
  made_there P (config ∷ configs) (suc place) all within =
      made_there P configs place all.1 (omega (arith, within))

  -- the server at a place that was found
  abbrev seen : List Config → Option ℕ → View
  seen configs o = unwrap_or (option_and_then (λ (node : Node). node.server)
      (option_and_then (node_at (made_of programs configs)) o)) no_view

  made_at : (P : View → Type 0) (configs : List Config) (server : Name)
      → AllByRecursion (λ (config : Config). P (view_given programs config)) configs
      → IsAmong (map config_name configs) server → P (view_at (made_of programs configs) server)
  made_at P configs server all among = by (server_place (made_of programs configs) server) refl
    where
      by : (o : Option ℕ) → server_place (made_of programs configs) server ≡ o
          → P (seen configs (server_place (made_of programs configs) server))
      by None is = absurd (true≢false
          (sym (sym (ap is_some is) ∙ placed_if (map config_name configs) server ∙ among)))
      by (Some place) is = subst (λ o. P (seen configs o)) (sym is)
          (made_there P configs place all
          (subst (λ n. place < n) (length-map configs config_name) (position-Some
          (λ (known : Name). same known server) (map config_name configs) place [] is).0))

  all_new : (configs : List Config)
      → AllByRecursion (λ (config : Config). IsNewServer (view_given programs config)) configs
  all_new [] = tt
  all_new (config ∷ configs) =
      (record { no_rows = refl; no_ends = refl; no_clients = refl; nobody = refl }, all_new configs)

-- ---- all of it

pub made_is_new : (programs : Name → Programs) (configs ordered : List Config)
    → configs_fault configs ≡ None → IsPermutation configs ordered
    → IsNew (made_of programs ordered)
made_is_new programs configs ordered none ones = record {
  set_up = record {
    named = nodes_named programs ordered;
    once = ordered_once configs ordered ones (without_fault configs none).twice_none;
    few = subst (λ n. n ≤ 256) (sym (length-map ordered config_name))
        (ordered_few configs ordered none ones);
    configured = λ server among. made_at programs IsConfigured ordered server
        (all_configured programs ordered
        (sym (list_any-IsPermutation is_bad_config configs ordered ones)
        ∙ (without_fault configs none).bad_none)) among;
  };
  servers =
      λ server among. made_at programs IsNewServer ordered server (all_new programs ordered) among;
  queues = none_queued programs ordered;
  links = refl;
  homes = refl;
  received = refl;
  items = refl;
  taken = refl;
}

abbrev pub made_with : Forest → List Node → Network
made_with forest nodes = record {
  names = forest.names;
  nodes = nodes;
  links = forest.links;
  homes = [];
  received = [];
  items = [];
  taken = 0;
}

-- a network of their forest and their nodes is what they make
pub network_made : (programs : Name → Programs) (ordered configs : List Config)
    (forest : Forest) (nodes : List Node) → configs ≡ ordered
    → forest ≡ record { names = map config_name configs; links = [] }
    → nodes ≡ map (new_node programs) ordered → made_with forest nodes ≡ made_of programs ordered
network_made programs ordered configs forest nodes ones named placed =
    ap (λ f. made_with f nodes)
    (named ∙ ap (λ cs. record { names = map config_name cs; links = [] }) ones)
    ∙ ap (made_with (record { names = map config_name ordered; links = [] })) placed
