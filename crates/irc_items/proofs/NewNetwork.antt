-- A network to which nothing was given is sound.
use Rattle.std.proofs.Common.{◌≡◌, ℕ, zero, suc, ◌+◌, ◌*◌, ◌≤◌, Bool, true, false, cond, not, ◌&&◌}
use Rattle.std.proofs.Common.{Option, Some, None, is_some, List, [], ◌∷◌, ◌++◌, length, count_by}
use Rattle.std.proofs.Common.{sum_by, refl, sym, ap, subst, ◌∙◌, arith, unwrap_or, if◌then◌else◌}
use Rattle.std.specs.FinMap.{empty, get, get-empty, retain_keys}
use Rattle.std.specs.List.{list_any, slice_get, AllByRecursion}
use Rattle.std.specs.Option.{option_and_then, option_map, option_map_or}
use Rattle.std.specs.Ordering.{nat_cmp}
use Rattle.std.proofs.Math.Bool.{and-not_self}
use Rattle.irc_names.specs.Tables.{each, fold_cmp, row}
use Rattle.irc_relay.specs.Distances.{IsAmong}
use Rattle.irc_relay.specs.Following.{AllAlong}
use Rattle.irc_relay.specs.Lemmas.TellingNames.{same_when}
use Rattle.irc_relay.specs.Links.{Name, Link, part, same, linked, joined, distance, AreLinked}
use Rattle.irc_relay.specs.Relay.{streams_from, after, coming, lines_coming, lines_pending}
use Rattle.irc_relay.specs.Relay.{under_way, Covers}
use Rattle.irc_names.specs.TableLaws.{row-each, same_table}
use Rattle.irc_room.specs.Invitations.{inviting_only, is_at, of_home}
use Rattle.irc_room.specs.Laws.{no_room}
use Rattle.irc_routes.specs.About.{says_nothing}
use Rattle.irc_routes.specs.Known.{Known, alone_known, row_of, IsNumbered}
use Rattle.irc_routes.specs.Lemmas.NumberedRows.{numbered_alone}
use Rattle.irc_stage.specs.declared.clients.Client.{Client}
use Rattle.irc_stage.specs.Lemmas.Counting.{get-kept}
use Rattle.irc_stage.specs.Lemmas.Numbers.{same_clients}
use Rattle.irc_world.specs.Owed.{owed_by_network, world_of}
use Rattle.irc_world.specs.Sound.{AreTaken}
use Rattle.irc_world.specs.Stepping.{Item}
use Rattle.irc_world.specs.WithinLimits.{IsItemWithin}
use Rattle.irc_world.specs.World.{Setting, home_in, new_world}
use Rattle.irc_world.specs.WorldHolds.{IsWorld, TakenMakeWorld}
use Rattle.irc_follow.specs.AtRest.{side_state_of, AreRight, SideAtRestIsSound}
use Rattle.irc_follow.specs.Fits.{Fits, far_of}
use Rattle.irc_follow.specs.SideState.{ItemSetting, info_in, is_home_of, number}
use Rattle.irc_follow.specs.Says.{machine}
use Rattle.irc_follow.specs.Tree.{index_in, shape, shape_in}
use Rattle.irc_network.specs.Network.{Network, Node, server_place, node_at}
use Rattle.irc_items.specs.Laws.{NewNetworkIsSound}
use Rattle.irc_items.specs.GoodLines.{no_answers, IsGoodLine}
use Rattle.irc_items.specs.Relayed.{setting_of_item, owed_at, owed_to, relayed, way_at}
use Rattle.irc_items.specs.SetUp.{no_view, routes_in, settings_of, view_at, IsConfigured, IsNew}
use Rattle.irc_items.specs.SetUp.{IsNewServer}
use Rattle.irc_items.specs.Sound.{most_now, owed_now, IsSound, IsSoundFrom, IsUnderWay}
use Rattle.irc_items.proofs.Common.Begun.{none_at_source}
use Rattle.irc_items.proofs.Common.Counting.{sum_most}
use Rattle.irc_items.proofs.Common.FewLines.{none_pending}
use Rattle.irc_items.specs.Lemmas.SetUpFacts.{fixed, servers_named, setting_there, there}
use Rattle.irc_items.specs.Lemmas.SetUpFacts.{viewed_nowhere}

no_depth : (t : Name) → distance [] t t ≡ 0
unfolding distance
no_depth t = refl

one_part : (x t : Name) → joined [] x t ≡ same x t
unfolding part
one_part x t = refl

nothing_by_none : (settings : List Setting) (client : ℕ) → owed_by_network settings [] client ≡ []
unfolding owed_by_network
nothing_by_none settings client = refl

-- no way goes from a node without queues
none_queued : (nodes : List Node) (place to : ℕ)
    → AllByRecursion (λ (node : Node). node.queues ≡ empty) nodes
    → option_and_then (λ (node : Node). get node.queues to) (slice_get nodes place) ≡ None
none_queued [] place to all = refl
none_queued (node ∷ nodes) zero to all = ap (λ queues. get queues to) all.0 ∙ get-empty nat_cmp to
none_queued (node ∷ nodes) (suc place) to all = none_queued nodes place to all.1

module _ (world_holds : TakenMakeWorld) (side : SideAtRestIsSound) (net : Network)
    (new : IsNew net) where
  no_ways : (x : Name) (to : ℕ) → way_at net x to ≡ None
  no_ways x to = by (server_place net x) refl
    where
      by : (o : Option ℕ) → server_place net x ≡ o → way_at net x to ≡ None
      by None is = ap (λ o. option_and_then (λ (node : Node). get node.queues to)
          (option_and_then (node_at net) o)) is
      by (Some place) is = ap (λ o. option_and_then (λ (node : Node). get node.queues to)
          (option_and_then (node_at net) o)) is
          ∙ none_queued net.nodes place to new.queues

  abbrev s : ItemSetting
  s = setting_of_item net (streams_from [] (λ t. t))

  no_end : (x : Name) (k : ℕ) → get (view_at net x).ends k ≡ None
  no_end x k = by (list_any (same x) net.names) refl
    where
      by : (b : Bool) → list_any (same x) net.names ≡ b → get (view_at net x).ends k ≡ None
      by true e = ap (λ ends. get ends k) (new.servers x e).no_ends ∙ get-empty nat_cmp k
      by false e =
          ap (λ o. get (unwrap_or o no_view).ends k) (viewed_nowhere net x e) ∙ get-empty nat_cmp k

  owes_nobody : (x y : Name) → owed_to s (view_at net x) y ≡ []
  owes_nobody x y =
      ap (λ o. option_map_or (owed_at s (view_at net x) y) o []) (no_end x (number s y))

  nothing_under_way : (client : ℕ) (x y : Name) → under_way (relayed s net client) x y ≡ []
  nothing_under_way client x y =
      ap (λ o. unwrap_or o [] ++ owed_to s (view_at net x) y) (no_ways x (number s y))
      ∙ owes_nobody x y

  -- ---- what servers know

  no_row : (t x : Name) → IsAmong net.names t → row_of (routes_in net t) x ≡ None
  no_row t x among = ap (λ rows. row rows x) (new.servers t among).no_rows ∙ get-empty fold_cmp x

  alone : (t : Name) → IsAmong net.names t → IsNumbered (routes_in net t)
  alone t among = subst IsNumbered (sym is) (numbered_alone known.name known.about configured.name
      configured.about)
    where
      known : Known
      known = routes_in net t

      configured : IsConfigured (view_at net t)
      configured = new.set_up.configured t among

      is : routes_in net t ≡ alone_known (routes_in net t).name (routes_in net t).about
      is i = record {
        name = (routes_in net t).name;
        about = (routes_in net t).about;
        rows =
            (new.servers t among).no_rows i;
      }

  none_both : (t x : Name) → (joined [] x t && not (same x t)) ≡ false
  none_both t x = ap (λ b. b && not (same x t)) (one_part x t) ∙ and-not_self (same x t)

  right : AreRight s [] (routes_in net)
  right = record {
    named = λ t among. (there net new.set_up t among).named;
    about = λ t among. sym (ap (λ o. option_map_or (λ (own : Setting). own.about) o says_nothing)
        (setting_there net new.set_up t among));
    rows = λ t x among. ap (option_map shape) (no_row t x among)
        ∙ sym (ap (λ b. if b then Some (shape_in s.names (info_in s.settings) [] t x) else None)
        (none_both t x));
    numbered = alone;
    low = λ t x r among is. absurd (let e = sym (no_row t x among) ∙ is in cc e);
    tokens = λ t u x r among linked is link. absurd linked;
  }

  -- ---- each server is at its part

  holds : IsWorld (settings_of net) new_world
  holds = world_holds (settings_of net) [] (servers_named net new.set_up) tt tt

  no_room_here : (t : Name) → of_home t no_room ≡ no_room
  unfolding of_home
  no_room_here t i = record {
    users = empty;
    channels = same_table
        (each (λ channel. Some (inviting_only (is_at t no_room.users) channel)) empty) empty
        (λ q. row-each (λ channel. Some (inviting_only (is_at t no_room.users) channel)) empty q
        ∙ ap (option_and_then (λ channel. Some (inviting_only (is_at t no_room.users) channel)))
        (get-empty fold_cmp q) ∙ sym (get-empty fold_cmp q)) i;
  }

  none_kept : (t : Name)
      → retain_keys (empty {X = Client} {R = nat_cmp}) (is_home_of s.homes t) ≡ empty
  none_kept t = same_clients _ _ (λ q. get-kept empty (is_home_of s.homes t) q
      ∙ ap (λ o. cond (is_home_of s.homes t q) o None) (get-empty nat_cmp q)
      ∙ either (is_home_of s.homes t q) ∙ sym (get-empty nat_cmp q))
    where
      either : (b : Bool) → cond {A = Option Client} b None None ≡ None
      either true = refl
      either false = refl

  fits : (t : Name) → IsAmong net.names t
      → Fits s t (side_state_of s new_world (routes_in net) t) (view_at net t)
  fits t among = record {
    here = same_when (part [] t) (part [] t) refl;
    sound = side s new_world (routes_in net) t (fixed net new.set_up s.streams)
        (record {
          homes = new.homes;
          parents = λ u p takes. absurd
              (let z = no_depth u in let b = takes.below in omega arith);
        }) holds right among;
    peers = sym (ap (λ o. option_map_or (λ (own : Setting). own.peers) o [])
        (setting_there net new.set_up t among));
    routes = refl;
    ends = λ x x_among. ap (option_map far_of) (no_end t (number s x));
    no_others = λ k end is. absurd (let e = sym (no_end t k) ∙ is in cc e);
    clients = new_one.no_clients ∙ sym (none_kept t);
    room = new_one.nobody ∙ sym (no_room_here t);
  }
    where
      new_one : IsNewServer (view_at net t)
      new_one = new.servers t among

  -- ---- nothing comes

  none_comes : (client : ℕ) (t : Name)
      → coming (machine s client) s.streams (relayed s net client) t ≡ []
  none_comes client t =
      none_at_source (machine s client) s.streams (relayed s net client) t (no_depth t)

  no_home : (client : ℕ) → home_in net.homes client ≡ None
  no_home client = ap (λ homes. home_in homes client) new.homes ∙ nobody client
    where
      nobody : (client : ℕ) → home_in [] client ≡ None
      nobody zero = refl
      nobody (suc n) = refl

  no_items : {A : Type 0} (f : List Item → A) → f net.items ≡ f []
  no_items f = ap f new.items

  no_links : {A : Type 0} (f : List Link → A) → f net.links ≡ f []
  no_links f = ap f new.links

  under_way_now : (client : ℕ) → IsUnderWay s no_answers new_world (routes_in net) net client []
  under_way_now client = record {
    away = λ x y line lines is. absurd (let e = sym (nothing_under_way client x y) ∙ is in cc e);
    fits = λ t among. subst (λ lines. Fits s t (side_state_of s new_world (routes_in net) t)
        (after (machine s client) t (s.streams.parent t) (view_at net t) lines))
        (sym (none_comes client t)) (fits t among);
    told = λ home is. absurd (let e = sym is
        ∙ ap (λ o. option_map_or (same home) o false) (no_home client) in cc e);
    well = λ t. subst (AllAlong (machine s client) (IsGoodLine s no_answers new_world
        (routes_in net)) (s.streams.parent t) t (view_at net t))
        (sym (none_comes client t)) tt;
  }

  few_coming : (client : ℕ) → net.taken + lines_coming (machine s client) s.streams
      (relayed s net client) net.names ≤ most_now net
  few_coming client =
      let sum = sum_most net.names (λ t. false) 0 (λ t. length
      (coming (machine s client) s.streams (relayed s net client) t)) (λ t among is. cc is)
      (λ t among is. ap (λ (lines : List (List ℕ)). length lines) (none_comes client t)) in
      let taken = new.taken in
      bound net.taken (sum_by (λ t. length (coming (machine s client) s.streams
      (relayed s net client) t)) net.names) (count_by (λ t. false) net.names)
      (most_now net) taken sum
    where
      bound : (taken sum many most : ℕ) → taken ≡ 0 → sum ≤ many * 0 → taken + sum ≤ most
      bound taken sum many most none few = let z : many * 0 ≡ 0 = omega arith in omega arith

  few_now : (client : ℕ) → net.taken + lines_pending (machine s client) s.streams
      (relayed s net client) net.names no_answers.answered no_answers.one no_answers.other
      ≤ most_now net
  few_now client =
      let few = few_coming client in
      let pending = none_pending (machine s client) s.streams (relayed s net client) net.names in
      omega arith

  coming_now : IsSoundFrom (λ t. t) (routes_in net) no_answers net s
  coming_now = record {
    covers = subst (λ links. Covers links (λ t. t)) (sym new.links)
        (record { joined = λ t. refl; linked = λ t u l. absurd l });
    right = subst (λ links. AreRight s links (routes_in net)) (sym new.links) right;
    called = λ x y l. absurd (subst (λ links. AreLinked links x y) new.links l);
    under_way = λ client. subst (λ w. IsUnderWay s no_answers w (routes_in net) net client
        (owed_now net client)) (sym (no_items (world_of (settings_of net))))
        (subst (IsUnderWay s no_answers new_world (routes_in net) net client)
        (sym (nothing_owed_now client)) (under_way_now client));
    few = few_now;
  }
    where
      nothing_owed_now : (client : ℕ) → owed_now net client ≡ []
      nothing_owed_now client = no_items (λ items. owed_by_network (settings_of net) items client)
          ∙ nothing_by_none (settings_of net) client

  pub new_is_sound : IsSound net
  new_is_sound = record {
    set_up = new.set_up;
    taken = subst (AreTaken (settings_of net) new_world) (sym new.items) tt;
    within = subst (AllByRecursion IsItemWithin) (sym new.items) tt;
    links = new.links ∙ sym (no_items (λ items. (world_of (settings_of net) items).links));
    homes = new.homes ∙ sym (no_items (λ items. (world_of (settings_of net) items).homes));
    inboxes = ap (λ (boxes : List (List (List ℕ))). length boxes) new.received
        ∙ sym (ap (λ (homes : List Name). length homes) new.homes);
    ways = λ x y. ap is_some (no_ways x (index_in net.names y))
        ∙ sym (no_links (λ links. linked links x y));
    to_servers = λ x place is. absurd (let e = sym is ∙ ap is_some (no_ways x place) in cc e);
    nobody = λ client none. no_items (λ items. owed_by_network (settings_of net) items client)
        ∙ nothing_by_none (settings_of net) client;
    source = λ t. t;
    routes = routes_in net;
    asks = no_answers;
    coming = subst (IsSoundFrom (λ t. t) (routes_in net) no_answers net)
        (λ i. setting_of_item net (streams_from (sym new.links i) (λ t. t))) coming_now;
  }

pub new_network_is_sound : TakenMakeWorld → SideAtRestIsSound → NewNetworkIsSound
new_network_is_sound world_holds side net new = new_is_sound world_holds side net new
