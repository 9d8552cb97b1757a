-- The network just after a client's server has served what the client does, as its other servers
-- are about to follow.
use Rattle.std.proofs.Common.{◌≡◌, ℕ, ◌<◌, ◌≤◌, ◌*◌, ◌-◌, Bool, true, false, cond, Option, Some}
use Rattle.std.proofs.Common.{None, is_some, length, refl, sym, ap, subst, ◌∙◌, if◌then◌else◌}
use Rattle.std.specs.FinMap.{get, retain_keys}
use Rattle.std.specs.Option.{option_map_or}
use Rattle.irc_relay.specs.Distances.{EndsAreAmong, IsAmong}
use Rattle.irc_relay.specs.Lemmas.TellingNames.{same_when}
use Rattle.irc_relay.specs.Links.{Name, part, joined, linked, same, AreJoined, AreLinked, IsForest}
use Rattle.irc_relay.specs.Relay.{streams_from, from_one, TakesFrom}
use Rattle.irc_relay.specs.Lemmas.StreamsFlow.{one_covers, source_is_one}
use Rattle.irc_relay.specs.Lemmas.NextHops.{next_hop}
use Rattle.irc_room.specs.Invitations.{of_home}
use Rattle.irc_stage.specs.declared.clients.Client.{Client}
use Rattle.irc_stage.specs.Handle.{ClientEvent}
use Rattle.irc_stage.specs.Lemmas.Counting.{get-kept}
use Rattle.irc_stage.specs.Lemmas.Numbers.{same_clients}
use Rattle.irc_world.specs.Bounds.{effects_at, most, part_size}
use Rattle.irc_world.specs.Bystanders.{IsElsewhere}
use Rattle.irc_world.specs.Sound.{HasHomeBy}
use Rattle.irc_world.specs.Stepping.{Item, by_machine}
use Rattle.irc_world.specs.World.{Hall, World, home_in, machine_at}
use Rattle.irc_world.specs.WorldHolds.{IsWorld}
use Rattle.irc_follow.specs.AtRest.{side_state_of, AreRight, IsOfWorld, SideAtRestIsSound}
use Rattle.irc_follow.specs.Fits.{Fits, IsNumberOf}
use Rattle.irc_follow.specs.SideState.{ItemSetting, is_home_of, IsItemSetting}
use Rattle.irc_network.specs.Network.{Network}
use Rattle.irc_items.specs.OneRoom.{at_rest_of}
use Rattle.irc_items.specs.Relayed.{setting_of_item}
use Rattle.irc_items.specs.SetUp.{routes_in, settings_of, view_at}
use Rattle.irc_items.specs.Sound.{world_now}
use Rattle.irc_items.proofs.Client.Given.{IsServedFor}
use Rattle.irc_items.proofs.Client.Due.{IsDueAtHome}
use Rattle.irc_items.proofs.Common.Right.{right_wherever}
use Rattle.irc_items.proofs.Common.Step.{IsStep}
use Rattle.irc_items.specs.Lemmas.SetUpFacts.{fixed}
use Rattle.irc_items.proofs.Common.SourceFacts.{IsFartherFrom, farther}

none_either : {A : Type 0} (a b : Bool)
    → cond {A = Option A} a None None ≡ cond {A = Option A} b None None
none_either true true = refl
none_either true false = refl
none_either false true = refl
none_either false false = refl

-- what stays while the client's part takes lines from its server
abbrev pub home_setting : Network → World → Name → ItemSetting
home_setting net world h = record {
  settings = settings_of net;
  names = net.names;
  homes = world.homes;
  streams =
      streams_from world.links (from_one world.links h);
}

-- What is known of a client's item, in a world that has the client already where it connects.
pub record IsClientStep (net base new : Network) (world : World) (h : Name)
    (client_event : ClientEvent)
    (item : Item) : Type 0 where
  pub step : IsStep net new item world.homes (by_machine (settings_of net) world h client_event)
  pub served : IsServedFor net base new h client_event item
  pub among : IsAmong net.names h
  pub homes : base.homes ≡ world.homes
  pub old_homes : (client : ℕ) (home : Name) → home_in net.homes client ≡ Some home
      → home_in world.homes client ≡ Some home
  pub links : net.links ≡ world.links
  pub hall : (t : Name) → world.hall t ≡ (world_now net).hall t
  pub holds : IsWorld (settings_of net) world
  pub elsewhere : (t : Name) → (AreJoined world.links t h → ⊥) → IsElsewhere (world_now net) item t
  pub due : IsDueAtHome (home_setting net world h) world h client_event
  pub few : length (effects_at (machine_at (settings_of net) world h) client_event)
      * (part_size (settings_of net) world.links h - 1)
      ≤ most (settings_of net) (world_now net) item

module _ (side : SideAtRestIsSound) {net base new : Network} {world : World} {h : Name}
    {client_event : ClientEvent} {item : Item}
    (given : IsClientStep net base new world h client_event item) where
  abbrev s : ItemSetting
  s = home_setting net world h

  pub forest : IsForest world.links
  forest = given.holds.sound.forest

  pub fixed_here : IsItemSetting s
  fixed_here = record {
    servers = f.servers;
    few = f.few;
    listed = f.listed;
    told_away = f.told_away;
  }
    where
      f : IsItemSetting (setting_of_item net s.streams)
      f = fixed net given.step.sound.set_up s.streams

  pub ends : EndsAreAmong net.names world.links
  ends t u l = sym (fixed_here.listed t) ∙ given.holds.sound.ends_known t u l

  -- who takes lines is linked to whom it takes them from, and there
  pub takes_linked : (t p : Name) → TakesFrom s.streams t p → AreLinked world.links t p
  takes_linked t p takes = subst (AreLinked world.links t) takes.parent
      (next_hop world.links t (from_one world.links h t) forest
      ((one_covers world.links h).joined t)
      (λ e. away (farther world.links forest h t takes.below) e)).linked
    where
      away : IsFartherFrom world.links h t → t ≡ from_one world.links h t → ⊥
      away far e = far.other (e ∙ source_is_one world.links h t far.joined_to)

  pub below_among : (t : Name) → 0 < s.streams.depth t → IsAmong net.names t
  below_among t below = ends t (s.streams.parent t)
      (takes_linked t (s.streams.parent t) (record { parent = refl; below = below }))

  pub of_world : IsOfWorld s world
  of_world = record { homes = refl; parents = takes_linked }

  pub right_here : AreRight s world.links (routes_in net)
  right_here = right_wherever s.homes s.streams (subst
      (λ links. AreRight (at_rest_of net) links (routes_in net)) given.links given.step.one.right)

  same_links : (world_now net).links ≡ world.links
  same_links = sym given.step.sound.links ∙ given.links

  -- a client that is there has the home that it had
  own_clients : (t : Name) → retain_keys ((world_now net).hall t).clients (is_home_of net.homes t)
      ≡ retain_keys (world.hall t).clients
      (is_home_of world.homes t)
  own_clients t =
      same_clients _ _ (λ q. get-kept ((world_now net).hall t).clients (is_home_of net.homes t) q
      ∙ at q (get ((world_now net).hall t).clients q) refl
      ∙ ap (λ o. cond (is_home_of world.homes t q) o None)
      (ap (λ (hall : Hall). get hall.clients q) (sym (given.hall t)))
      ∙ sym (get-kept (world.hall t).clients (is_home_of world.homes t) q))
    where
      at : (q : ℕ) (o : Option Client) → get ((world_now net).hall t).clients q ≡ o
          → cond (is_home_of net.homes t q) (get ((world_now net).hall t).clients q) None
          ≡ cond (is_home_of world.homes t q)
          (get ((world_now net).hall t).clients q) None
      at q None is = ap (λ o. cond (is_home_of net.homes t q) o None) is
          ∙ none_either (is_home_of net.homes t q) (is_home_of world.homes t q)
          ∙ sym (ap (λ o. cond (is_home_of world.homes t q) o None) is)
      at q (Some client) is = ap (λ b. cond b (get ((world_now net).hall t).clients q) None)
          (ap (λ o. option_map_or (same t) o false)
          (before ∙ sym (given.old_homes q there.home before)))
        where
          there : HasHomeBy (world_now net).links (world_now net).homes q t
          there = given.step.holds.sound.clients_home t q (ap is_some is)

          before : home_in net.homes q ≡ Some there.home
          before = ap (λ homes. home_in homes q) given.step.sound.homes ∙ there.is_home

  -- each server is at the part of the world that it is in
  pub fits_here : (t : Name) → IsAmong net.names t
      → Fits s t (side_state_of s world (routes_in net) t) (view_at net t)
  fits_here t among = record {
    here = same_when (part world.links t) (part world.links t) refl;
    sound = side s world (routes_in net) t fixed_here of_world given.holds right_here among;
    peers = f.peers;
    routes = refl;
    ends = λ x x_among. f.ends x x_among
        ∙ ap (λ links. if linked links t x then Some (if joined links x t then Some x else None)
        else None) same_links;
    no_others = λ k end is. by k (f.no_others k end is);
    clients = f.clients ∙ own_clients t;
    room = f.room ∙ ap (λ (hall : Hall). of_home t hall.room) (sym (given.hall t));
  }
    where
      f : Fits (at_rest_of net) t (side_state_of (at_rest_of net) (world_now net) (routes_in net) t)
          (view_at net t)
      f = given.step.one.servers t among

      by : (k : ℕ) → IsNumberOf (at_rest_of net) k → IsNumberOf s k
      by k n = record { server = n.server; among = n.among; is = n.is }
