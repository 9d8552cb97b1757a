-- How a network begins an item: where it comes to once all lines of it are taken.
use Rattle.std.proofs.Common.{◌≡◌, ℕ, zero, suc, ◌<◌, true, List, [], ◌++◌, refl, sym, ap, subst}
use Rattle.std.proofs.Common.{◌∙◌, append-nil, arith, cond}
use Rattle.irc_merge.specs.Deeds.{Deed}
use Rattle.irc_relay.specs.Distances.{IsAmong}
use Rattle.irc_relay.specs.Following.{Follows, GoesWell, IsFollowing, Starts, all_done, all_seen}
use Rattle.irc_relay.specs.Links.{Name, IsForest}
use Rattle.irc_relay.specs.Relay.{Machine, RelayState, Streams, streams_from, Covers, GoesAway}
use Rattle.irc_relay.specs.Relay.{after}
use Rattle.irc_relay.specs.Relay.{shown_upon, coming, coming_within, final, final_shown}
use Rattle.irc_relay.specs.Lemmas.ActsToldOn.{all_well, followed}
use Rattle.irc_routes.specs.Known.{Known}
use Rattle.irc_stage.specs.View.{View}
use Rattle.irc_world.specs.World.{World}
use Rattle.irc_follow.specs.AtRest.{side_state_of}
use Rattle.irc_follow.specs.Fits.{Fits}
use Rattle.irc_follow.specs.SideState.{ItemSetting, SideState, is_home_of}
use Rattle.irc_follow.specs.Says.{machine, play}
use Rattle.irc_network.specs.Network.{Network, received_by}
use Rattle.irc_items.specs.GoodLines.{Answering, IsGoodLine}
use Rattle.irc_items.specs.Relayed.{relayed}
use Rattle.irc_items.specs.SetUp.{view_at}
use Rattle.irc_items.specs.Sound.{IsUnderWay}
use Rattle.irc_items.proofs.Good.GoodLines.{good_terms}

-- as one client sees it: each server that takes lines is told of these deeds from this side on, and
-- comes to the world by them; the others are there already
pub record IsBegun (s : ItemSetting) (asks : Answering) (world : World) (routes : Name → Known)
    (net : Network) (client : ℕ) (owed : List (List ℕ))
    (part : Name → SideState)
    (deeds : Name → List Deed) : Type 0 where
  pub starts : Starts (machine s client) (play s client) (good_terms s asks world routes) s.streams
      (relayed s net client) part deeds
  pub away : GoesAway s.streams (relayed s net client)
  pub at_source : (t : Name) → IsAmong s.names t → s.streams.depth t ≡ 0
      → Fits s t (side_state_of s world routes t) (view_at net t)
  pub comes_to : (t : Name) (view : View) → IsAmong s.names t → 0 < s.streams.depth t → Fits s t
      (all_done (play s client) (part t) (deeds t)) view
      → Fits s t (side_state_of s world routes t) view
  pub told_source : (t : Name) → is_home_of s.homes t client ≡ true → s.streams.depth t ≡ 0
      → received_by net client ≡ owed
  pub told : (t : Name) → is_home_of s.homes t client ≡ true → 0 < s.streams.depth t
      → received_by net client ++ all_seen (play s client) t (part t) (deeds t) ≡ owed

-- to a server at no distance from its source nothing comes
pub none_at_source : {State Line Shown : Type 0} (m : Machine State Line Shown) (streams : Streams)
    (net : RelayState State Line Shown) (t : Name) → streams.depth t ≡ 0
    → coming m streams net t ≡ []
unfolding coming_within
none_at_source m streams net t none = ap (λ n. coming_within m streams net n t) none

-- an item that has begun, and how servers follow it along the links of the world that it makes
pub record IsGoingOn (s : ItemSetting) (asks : Answering) (world : World) (source : Name → Name)
    (routes : Name → Known) (net : Network) (client : ℕ)
    (owed : List (List ℕ)) (part : Name → SideState) (deeds : Name → List Deed) : Type 0 where
  pub forest : IsForest world.links
  pub covers : Covers world.links source
  pub streams : s.streams ≡ streams_from world.links source
  pub follow : Follows (machine s client) (play s client)
      (good_terms s asks world routes) world.links s.streams
  pub begun : IsBegun s asks world routes net client owed part deeds

module _ {s : ItemSetting} {asks : Answering} {world : World} {source : Name → Name}
    {routes : Name → Known} {net : Network} {client : ℕ} {owed : List (List ℕ)}
    {part : Name → SideState} {deeds : Name → List Deed}
    (goes : IsGoingOn s asks world source routes net client owed part deeds) where
  -- the same, with the streams in full
  follow_along : Follows (machine s client) (play s client)
      (good_terms s asks world routes) world.links (streams_from world.links source)
  follow_along = subst (λ from. Follows (machine s client) (play s client)
      (good_terms s asks world routes) world.links from) goes.streams goes.follow

  starts_along : Starts (machine s client) (play s client) (good_terms s asks world routes)
      (streams_from world.links source) (relayed s net client) part deeds
  starts_along =
      subst (λ from. Starts (machine s client) (play s client) (good_terms s asks world routes) from
      (relayed s net client) part deeds) goes.streams goes.begun.starts

  pub follows : (t : Name) → 0 < s.streams.depth t → IsFollowing (machine s client) (play s client)
      (good_terms s asks world routes) s.streams (relayed s net client) (part t) (deeds t) t
  follows t below =
      subst (λ from. IsFollowing (machine s client) (play s client)
      (good_terms s asks world routes) from (relayed s net client) (part t) (deeds t) t)
      (sym goes.streams)
      (followed View (List ℕ) (List ℕ) SideState Deed (machine s client) (play s client)
      (good_terms s asks world routes) world.links source goes.forest goes.covers
      follow_along (relayed s net client) part deeds starts_along t
      (subst (λ from. 0 < from.depth t) goes.streams below))

  well : GoesWell (machine s client) s.streams (IsGoodLine s asks world routes)
      (relayed s net client)
  well =
      subst (λ from. GoesWell (machine s client) from (IsGoodLine s asks world routes)
      (relayed s net client)) (sym goes.streams)
      (all_well View (List ℕ) (List ℕ) SideState Deed (machine s client) (play s client)
      (good_terms s asks world routes) world.links source goes.forest goes.covers
      follow_along (relayed s net client) part deeds starts_along)

  will_fit : (t : Name) → IsAmong s.names t → Fits s t (side_state_of s world routes t)
      (final (machine s client) s.streams (relayed s net client) t)
  will_fit t among = by (s.streams.depth t) refl
    where
      by : (n : ℕ) → s.streams.depth t ≡ n → Fits s t (side_state_of s world routes t)
          (final (machine s client) s.streams (relayed s net client) t)
      by zero none =
          subst (λ lines. Fits s t (side_state_of s world routes t)
          (after (machine s client) t (s.streams.parent t) (view_at net t) lines))
          (sym (none_at_source (machine s client) s.streams (relayed s net client) t none))
          (goes.begun.at_source t among none)
      by (suc n) deep = goes.begun.comes_to t (final (machine s client) s.streams
          (relayed s net client) t) among (omega arith) (follows t (omega arith)).fits

  has_shown : (t : Name) → is_home_of s.homes t client ≡ true
      → (relayed s net client).shown t ≡ received_by net client
  has_shown t home = ap (λ b. cond b (received_by net client) []) home

  will_receive : (t : Name) → is_home_of s.homes t client ≡ true
      → final_shown (machine s client) s.streams (relayed s net client) t ≡ owed
  will_receive t home = by (s.streams.depth t) refl
    where
      by : (n : ℕ) → s.streams.depth t ≡ n
          → final_shown (machine s client) s.streams (relayed s net client) t ≡ owed
      by zero none =
          ap (λ lines. (relayed s net client).shown t
          ++ shown_upon (machine s client) t (s.streams.parent t) (view_at net t) lines)
          (none_at_source (machine s client) s.streams (relayed s net client) t none)
          ∙ append-nil ((relayed s net client).shown t)
          ∙ has_shown t home
          ∙ goes.begun.told_source t home none
      by (suc n) deep =
          (follows t (omega arith)).shown
          ∙ ap (λ v. v ++ all_seen (play s client) t (part t) (deeds t)) (has_shown t home)
          ∙ goes.begun.told t home (omega arith)

  -- Servers follow along these links from these sources.
  pub begins : IsUnderWay s asks world routes net client owed
  begins = record { away = goes.begun.away; fits = will_fit; told = will_receive; well = well }
