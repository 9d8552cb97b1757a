-- A network at rest is one room.
use Rattle.std.proofs.Common.{◌≡◌, ℕ, zero, suc, true, false, Option, Some, None, List, [], ◌∷◌}
use Rattle.std.proofs.Common.{◌++◌, length, refl, sym, ap, subst, ◌∙◌, arith, cond, unwrap_or}
use Rattle.std.specs.List.{slice_get}
use Rattle.std.specs.Option.{option_map, option_map_or}
use Rattle.irc_relay.specs.Distances.{EndsAreAmong, IsAmong}
use Rattle.irc_relay.specs.Laws.{RestIsFinal}
use Rattle.irc_relay.specs.Lemmas.TellingNames.{same_when}
use Rattle.irc_relay.specs.Links.{Name, same, AreLinked, IsForest}
use Rattle.irc_relay.specs.Relay.{streams_from, coming, shown_upon, IsAtRest, IsFront, TakesFrom}
use Rattle.irc_relay.specs.Lemmas.NextHops.{distance_self}
use Rattle.irc_routes.specs.Known.{Known, row_of, token_out, IsNumbered}
use Rattle.irc_stage.specs.View.{View}
use Rattle.irc_world.specs.World.{home_in}
use Rattle.irc_world.specs.WorldHolds.{IsWorld, TakenMakeWorld}
use Rattle.irc_follow.specs.AtRest.{side_state_of, AreRight, SideAtRestIsSound}
use Rattle.irc_follow.specs.Fits.{Fits, IsNumberOf}
use Rattle.irc_follow.specs.SideState.{ItemSetting, is_home_of, IsSoundSide}
use Rattle.irc_follow.specs.Says.{machine}
use Rattle.irc_follow.specs.Tree.{shape}
use Rattle.irc_network.specs.Network.{Network, is_at_rest, received_by}
use Rattle.irc_items.specs.Laws.{ReceivedIsFront, RestIsOneRoom}
use Rattle.irc_items.specs.OneRoom.{at_rest_of, IsOneRoom}
use Rattle.irc_items.specs.Relayed.{setting_of_item, relayed}
use Rattle.irc_items.specs.SetUp.{routes_in, settings_of, view_at}
use Rattle.irc_items.specs.Sound.{IsSound, owed_now, world_now}
use Rattle.irc_items.proofs.Common.Rest.{AreRestLaws, nothing_under_way}
use Rattle.irc_items.specs.Lemmas.SetUpFacts.{fixed, listed, servers_named}

-- ---- what a client has received

pub beyond : {A B : Type 0} (homes : List A) (received : List B) (place : ℕ) → length received
    ≡ length homes → slice_get homes place ≡ None → slice_get received place ≡ None
beyond homes [] place long none = refl
beyond [] (inbox ∷ received) place long none = absurd (cc long)
beyond (home ∷ homes) (inbox ∷ received) zero long none = absurd (cc none)
beyond (home ∷ homes) (inbox ∷ received) (suc place) long none =
    beyond homes received place (shorter long) none
  where
    shorter : length (inbox ∷ received) ≡ length (home ∷ homes) → length received ≡ length homes
    shorter e = omega arith

-- a number that was never given has received nothing
pub nothing_received : (net : Network) (client : ℕ) → length net.received ≡ length net.homes
    → home_in net.homes client ≡ None → received_by net client ≡ []
nothing_received net zero long none = refl
nothing_received net (suc earlier) long none =
    ap (λ o. unwrap_or o []) (beyond net.homes net.received earlier long none)

pub is_home : (homes : List Name) (client : ℕ) (home : Name) → home_in homes client ≡ Some home
    → is_home_of homes home client ≡ true
is_home homes client home is =
    ap (λ o. option_map_or (same home) o false) is ∙ same_when home home refl

pub shown_at_home : (s : ItemSetting) (net : Network) (client : ℕ) (home : Name)
    → is_home_of s.homes home client ≡ true
    → (relayed s net client).shown home ≡ received_by net client
shown_at_home s net client home is = ap (λ b. cond b (received_by net client) []) is

-- along its links, from the sources that it has
abbrev pub flowing : (net : Network) → IsSound net → ItemSetting
flowing net sound = setting_of_item net (streams_from net.links sound.source)

pub received_is_front : ReceivedIsFront
received_is_front net client sound = by (home_in net.homes client) refl
  where
    by : (o : Option Name) → home_in net.homes client ≡ o
        → IsFront (received_by net client) (owed_now net client)
    by None none = (
      [],
      ap (λ lines. lines ++ []) (nothing_received net client sound.inboxes none)
          ∙ sym (sound.nobody client none),
    )
    by (Some home) is = (
      later,
      ap (λ lines. lines ++ later) (sym (shown_at_home (flowing net sound) net client home at_home))
          ∙ (sound.coming.under_way client).told home at_home,
    )
      where
        at_home : is_home_of net.homes home client ≡ true
        at_home = is_home net.homes client home is

        later : List (List ℕ)
        later = shown_upon (machine (flowing net sound) client) home
            ((flowing net sound).streams.parent home) (view_at net home)
            (coming (machine (flowing net sound) client) (flowing net sound).streams
            (relayed (flowing net sound) net client) home)

-- ---- one room

pub record AreRoomLaws : Type 0 where
  pub at_rest : AreRestLaws
  pub world : TakenMakeWorld
  pub side : SideAtRestIsSound
  pub final : RestIsFinal View (List ℕ) (List ℕ)

-- the world that the items make
pub holds_now : TakenMakeWorld → (net : Network) → IsSound net
    → IsWorld (settings_of net) (world_now net)
holds_now made net sound =
    made (settings_of net) net.items (servers_named net sound.set_up) sound.within sound.taken

pub forest_now : (net : Network) (sound : IsSound net) → IsWorld (settings_of net) (world_now net)
    → IsForest net.links
forest_now net sound holds = subst IsForest (sym sound.links) holds.sound.forest

pub ends_now : (net : Network) (sound : IsSound net) → IsWorld (settings_of net) (world_now net)
    → EndsAreAmong net.names net.links
ends_now net sound holds t u linked =
    sym (listed net sound.set_up t)
    ∙ holds.sound.ends_known t u (subst (λ links. AreLinked links t u) sound.links linked)

module _ (laws : AreRoomLaws) (net : Network) (sound : IsSound net)
    (rest : is_at_rest net ≡ true) where
  abbrev s : ItemSetting
  s = setting_of_item net (streams_from net.links sound.source)

  holds : IsWorld (settings_of net) (world_now net)
  holds = holds_now laws.world net sound

  quiet : (client : ℕ) → IsAtRest (relayed s net client)
  quiet client = nothing_under_way laws.at_rest net sound rest (forest_now net sound holds)
      (ends_now net sound holds) sound.links client

  -- each server is what it was to be
  fits_now : (t : Name) → IsAmong net.names t
      → Fits s t (side_state_of s (world_now net) sound.routes t) (view_at net t)
  fits_now t among = subst (Fits s t (side_state_of s (world_now net) sound.routes t))
      (laws.final (machine s 0) s.streams (relayed s net 0) t (quiet 0)).0
      ((sound.coming.under_way 0).fits t among)

  same_routes : (t : Name) → IsAmong net.names t → routes_in net t ≡ sound.routes t
  same_routes t among = (fits_now t among).routes

  right_now : AreRight (at_rest_of net) net.links (routes_in net)
  right_now = record {
    named = λ t among. ap (λ (k : Known). k.name) (same_routes t among) ∙ right.named t among;
    about = λ t among. ap (λ (k : Known). k.about) (same_routes t among) ∙ right.about t among;
    rows = λ t x among. ap (λ k. option_map shape (row_of k x)) (same_routes t among)
        ∙ right.rows t x among;
    numbered = λ t among. subst IsNumbered (sym (same_routes t among)) (right.numbered t among);
    low = λ t x r among is. right.low t x r among
        (ap (λ k. row_of k x) (sym (same_routes t among)) ∙ is);
    tokens = λ t u x r among linked is link. ap (λ k. token_out k x)
        (same_routes t (ends_now net sound holds t u linked))
        ∙ right.tokens t u x r among linked (ap (λ k. row_of k x) (sym (same_routes u among))
        ∙ is) link;
  }
    where
      right : AreRight s net.links sound.routes
      right = sound.coming.right

  no_taker : (t p : Name) → TakesFrom (streams_from net.links (λ server. server)) t p → ⊥
  no_taker t p takes = let z = distance_self net.links t in let b = takes.below in omega arith

  side_now : (t : Name) → IsAmong net.names t → IsSoundSide (at_rest_of net)
      (side_state_of (at_rest_of net) (world_now net) (routes_in net) t)
  side_now t among = laws.side (at_rest_of net) (world_now net) (routes_in net) t
      (fixed net sound.set_up (streams_from net.links (λ server. server)))
      (record { homes = sound.homes; parents = λ u p takes. absurd (no_taker u p takes) }) holds
      (subst (λ links. AreRight (at_rest_of net) links (routes_in net)) sound.links right_now) among

  server_now : (t : Name) → IsAmong net.names t → Fits (at_rest_of net) t
      (side_state_of (at_rest_of net) (world_now net) (routes_in net) t) (view_at net t)
  server_now t among = record {
    here = f.here;
    sound = side_now t among;
    peers = f.peers;
    routes = refl;
    ends = f.ends;
    no_others = λ k end is. by k (f.no_others k end is);
    clients = f.clients;
    room = f.room;
  }
    where
      f : Fits s t (side_state_of s (world_now net) sound.routes t) (view_at net t)
      f = fits_now t among

      by : (k : ℕ) → IsNumberOf s k → IsNumberOf (at_rest_of net) k
      by k n = record { server = n.server; among = n.among; is = n.is }

  received_now : (client : ℕ) → received_by net client ≡ owed_now net client
  received_now client = by (home_in net.homes client) refl
    where
      by : (o : Option Name) → home_in net.homes client ≡ o
          → received_by net client ≡ owed_now net client
      by None none = nothing_received net client sound.inboxes none ∙ sym (sound.nobody client none)
      by (Some home) is =
          sym (shown_at_home s net client home (is_home net.homes client home is))
          ∙ sym (laws.final (machine s client) s.streams (relayed s net client) home
          (quiet client)).1
          ∙ (sound.coming.under_way client).told home (is_home net.homes client home is)

  pub one_room : IsOneRoom net
  one_room = record { right = right_now; servers = server_now; received = received_now }

pub rest_is_one_room : AreRoomLaws → RestIsOneRoom
rest_is_one_room laws net sound rest = one_room laws net sound rest
