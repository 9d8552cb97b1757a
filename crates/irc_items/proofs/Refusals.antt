-- A network at rest refuses just what its world refuses.
use Rattle.std.proofs.Common.{◌≡◌, ℕ, Bool, true, false, cond, not, ◌&&◌, ◌||◌, Option, Some, None}
use Rattle.std.proofs.Common.{is_some, List, refl, sym, ◌∙◌, ap, if◌then◌else◌}
use Rattle.std.specs.FinMap.{get, get-retain_keys, nat_cmp-IsAntisymmetric}
use Rattle.std.specs.List.{find}
use Rattle.std.specs.Option.{option_and_then, option_map, option_map_or}
use Rattle.irc_relay.specs.Distances.{IsAmong}
use Rattle.irc_relay.specs.Lemmas.TellingNames.{same_when}
use Rattle.irc_relay.specs.Links.{Name, same, joined}
use Rattle.irc_relay.specs.Links.{linked as are_linked}
use Rattle.irc_stage.specs.View.{KnownPeer, password_for}
use Rattle.irc_world.specs.Laws.{WorldIsSound}
use Rattle.irc_world.specs.Refused.{Refusal, are_equal, link_refusal, link_refused, needs_servers}
use Rattle.irc_world.specs.Refused.{no_such_client, no_such_server, not_linked, open_client}
use Rattle.irc_world.specs.Refused.{refused}
use Rattle.irc_world.specs.Refused.{password_for as password_kept}
use Rattle.irc_world.specs.Sound.{IsSound}
use Rattle.irc_world.specs.Stepping.{Item, connect, line, gone, link, cut}
use Rattle.irc_world.specs.World.{Setting, World, home_in, is_server}
use Rattle.irc_follow.specs.SideState.{is_home_of}
use Rattle.irc_network.specs.Network.{Network, node_view}
use Rattle.irc_network.specs.Refusing.{fault_at_rest, has_client, is_there, link_fault}
use Rattle.irc_network.specs.Refusing.{meeting_fault, way_fault}
use Rattle.irc_network.specs.Refusing.{is_server as is_placed}
use Rattle.irc_items.specs.Laws.{RefusalsAreTheWorlds, RestIsOneRoom}
use Rattle.irc_items.specs.OneRoom.{IsOneRoom}
use Rattle.irc_items.specs.SetUp.{settings_of, view_at, IsSetUp}
use Rattle.irc_items.specs.Sound.{world_now}
use Rattle.irc_items.specs.Lemmas.SetUpFacts.{listed, placed_if, setting_there, viewed}
use Rattle.irc_items.specs.Lemmas.SetUpFacts.{viewed_nowhere}

module _ (net : Network) (set_up : IsSetUp net) (links : net.links ≡ (world_now net).links)
    (homes : net.homes ≡ (world_now net).homes) (room : IsOneRoom net)
    (sound : IsSound (settings_of net) (world_now net)) where
  abbrev settings : List Setting
  settings = settings_of net

  abbrev world : World
  world = world_now net

  -- ---- who is there

  a_server : (server : Name) → is_placed net server ≡ is_server settings server
  a_server server = placed_if net.names server ∙ sym (listed net set_up server)

  among : (server : Name) → is_server settings server ≡ true → IsAmong net.names server
  among server there = sym (listed net set_up server) ∙ there

  -- a client is there where the world has it
  a_client : (client : ℕ) → is_there net client ≡ is_some (open_client world client)
  a_client client = by (home_in net.homes client) refl
    where
      at_home : (home : Name) → home_in net.homes client ≡ Some home
          → is_home_of net.homes home client ≡ true
      at_home home is = ap (λ o. option_map_or (same home) o false) is ∙ same_when home home refl

      kept : (home : Name) → home_in net.homes client ≡ Some home → IsAmong net.names home
          → get (view_at net home).clients client ≡ get (world.hall home).clients client
      kept home is here =
          ap (λ clients. get clients client) (room.servers home here).clients
          ∙ get-retain_keys (world.hall home).clients (is_home_of net.homes home) client
          (λ x e. ap (is_home_of net.homes home) (sym (nat_cmp-IsAntisymmetric client x e)))
          ∙ ap (λ b. cond b (get (world.hall home).clients client) None) (at_home home is)

      by : (o : Option Name) → home_in net.homes client ≡ o
          → is_there net client ≡ is_some (open_client world client)
      by None is =
          ap (λ o. option_map_or (has_client client) (option_and_then (node_view net) o) false) is
          ∙ sym
          (ap (λ o. is_some (option_and_then (λ home. get (world.hall home).clients client) o))
          (sym (ap (λ hs. home_in hs client) homes) ∙ is))
      by (Some home) is =
          let of_world = sym (ap (λ hs. home_in hs client) homes) ∙ is in
          let here = among home (sound.homes_known client home of_world) in
          ap (λ o. option_map_or (has_client client) (option_and_then (node_view net) o) false) is
          ∙ ap (λ o. option_map_or (has_client client) o false) (viewed net set_up home here)
          ∙ ap is_some (kept home is here)
          ∙ sym (ap (λ o. is_some
          (option_and_then (λ home. get (world.hall home).clients client) o)) of_world)

  -- ---- what two servers have of each other

  a_password : (server peer : Name) → IsAmong net.names server
      → password_for (view_at net server) peer ≡ password_kept settings server peer
  a_password server peer here =
      sym (ap (option_and_then (λ (s : Setting). option_map (λ (p : KnownPeer). p.password)
      (find (λ (p : KnownPeer). same p.name peer) s.peers)))
      (setting_there net set_up server here))

  -- why two servers that are there are not linked
  refusal_of : Bool → Bool → Option Refusal
  refusal_of are_joined have_one = if are_joined || not have_one then Some link_refused else None

  a_meeting : (near far : Name) → IsAmong net.names near → IsAmong net.names far
      → meeting_fault net near far (view_at net near) (view_at net far)
      ≡ link_refusal settings world near far
  unfolding refusal_of
  a_meeting near far near_here far_here =
      λ i. refusal_of (joined (links i) near far)
      (are_equal (a_password near far near_here i) (a_password far near far_here i))

  a_link : (near far : Name) → link_fault net near far (node_view net near) (node_view net far)
      ≡ needs_servers settings near far (link_refusal settings world near far)
  a_link near far = by (is_server settings near) (is_server settings far) refl refl
    where
      none : (server : Name) → is_server settings server ≡ false → node_view net server ≡ None
      none server is = viewed_nowhere net server (sym (listed net set_up server) ∙ is)

      some : (server : Name) → is_server settings server ≡ true
          → node_view net server ≡ Some (view_at net server)
      some server is = viewed net set_up server (among server is)

      by : (one other : Bool) → is_server settings near ≡ one → is_server settings far ≡ other
          → link_fault net near far (node_view net near) (node_view net far)
          ≡ (if one && other then link_refusal settings world near far else Some no_such_server)
      by false other is_near is_far =
          ap (λ o. link_fault net near far o (node_view net far)) (none near is_near)
      by true false is_near is_far =
          λ i. link_fault net near far (some near is_near i) (none far is_far i)
      by true true is_near is_far =
          (λ i. link_fault net near far (some near is_near i) (some far is_far i))
          ∙ a_meeting near far (among near is_near) (among far is_far)

  a_cut : (near far : Name) → way_fault net near far ≡ needs_servers settings near far
      (if are_linked world.links near far then None else Some not_linked)
  a_cut near far =
      (λ i. if not (a_server near i) || not (a_server far i) then Some no_such_server
      else (if are_linked (links i) near far then None else Some not_linked))
      ∙ turned (is_server settings near) (is_server settings far)
      (if are_linked world.links near far then None else Some not_linked)
    where
      turned : (one other : Bool) (refusal : Option Refusal)
          → (if not one || not other then Some no_such_server else refusal)
          ≡ (if one && other then refusal else Some no_such_server)
      turned true true refusal = refl
      turned true false refusal = refl
      turned false other refusal = refl

  each_item : (item : Item) → fault_at_rest net item ≡ refused settings world item
  unfolding refused
  each_item (connect server host) =
      ap (λ b. if b then None else Some no_such_server) (a_server server)
  each_item (line client bytes) =
      ap (λ b. if b then None else Some no_such_client) (a_client client)
  each_item (gone client) = ap (λ b. if b then None else Some no_such_client) (a_client client)
  each_item (link near far) = a_link near far
  each_item (cut near far) = a_cut near far

pub refusals_are_the_worlds : RestIsOneRoom → WorldIsSound → RefusalsAreTheWorlds
refusals_are_the_worlds one_room world_sound net item sound at_rest =
    each_item net sound.set_up sound.links sound.homes (one_room net sound at_rest)
    (world_sound (settings_of net) net.items sound.taken) item
