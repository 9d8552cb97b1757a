-- A network is sound once a client's item is given.
use Rattle.std.proofs.Common.{◌≡◌, ◌⊎◌, ℕ, ◌+◌, ◌*◌, ◌-◌, ◌≤◌, true, is_some, List, ◌++◌, length}
use Rattle.std.proofs.Common.{count_by, refl, sym, ap, subst, ◌∙◌, arith, inl, le_of_eq}
use Rattle.irc_relay.specs.Distances.{IsAmong}
use Rattle.std.proofs.lemmas.List.{length-map}
use Rattle.irc_names.specs.Lemmas.PlainFacts.{is_some-map}
use Rattle.irc_merge.specs.Deeds.{does}
use Rattle.irc_relay.specs.Lemmas.TellingNames.{Telling, alike, unlike, tell}
use Rattle.irc_relay.specs.Links.{Name, distance, part, same, linked, joined, AreLinked}
use Rattle.irc_relay.specs.Relay.{from_one, lines_coming, lines_pending, under_way}
use Rattle.irc_relay.specs.Lemmas.StreamsFlow.{one_covers}
use Rattle.irc_relay.specs.Lemmas.NextHops.{linked_back}
use Rattle.irc_stage.specs.ClientTold.{client_told}
use Rattle.irc_stage.specs.Handle.{ClientEvent}
use Rattle.irc_world.specs.Bounds.{effects_at, most, part_size}
use Rattle.irc_world.specs.Stepping.{Item, by_machine}
use Rattle.irc_world.specs.World.{World, machine_at}
use Rattle.irc_follow.specs.AtRest.{side_state_of}
use Rattle.irc_follow.specs.Fits.{Fits}
use Rattle.irc_follow.specs.SideState.{ItemSetting, number}
use Rattle.irc_follow.specs.Says.{lines_on, machine}
use Rattle.irc_network.specs.Network.{Network}
use Rattle.irc_items.specs.GoodLines.{no_answers}
use Rattle.irc_items.specs.Relayed.{is_met_with, relayed, way_at}
use Rattle.irc_items.specs.SetUp.{routes_in, settings_of, view_at}
use Rattle.irc_items.specs.Sound.{owed_now, world_now, is_met, HasCalled, IsSound}
use Rattle.irc_items.proofs.Common.Begun.{begins, IsGoingOn}
use Rattle.irc_items.proofs.Common.Sources.{few_from_one, AreFew}
use Rattle.irc_items.proofs.Client.Begins.{client_goes_on, fits_before, fits_home, fits_taker}
use Rattle.irc_items.proofs.Client.Begins.{from_home, AreClientLaws, IsToldByHome}
use Rattle.irc_items.proofs.Client.Given.{done_at}
use Rattle.irc_items.proofs.Client.OtherServers.{deeds_at}
use Rattle.irc_items.proofs.Client.Side.{ends, home_setting, right_here, IsClientStep}
use Rattle.irc_items.proofs.Common.Counting.{part_counted}
use Rattle.irc_items.proofs.Common.FewLines.{none_at_source, none_pending}
use Rattle.irc_items.proofs.Home.Fits.{DoesAsMachine}
use Rattle.irc_items.proofs.Common.Reading.{linked_met}
use Rattle.irc_items.proofs.Common.Step.{item_sound, ComesTo}
use Rattle.irc_items.proofs.Common.SourceFacts.{home_depth, next_to, stands_from_one, IsNextTo}

turned : (sum size effects part : ℕ) → sum ≤ 0 + size * effects → part ≡ size → sum ≤ effects * part
turned sum size effects part most same = rw same (omega arith)

module _ (laws : AreClientLaws) {net base new : Network} {world : World} {h : Name}
    {client_event : ClientEvent} {item : Item}
    (given : IsClientStep net base new world h client_event item)
    (at_home : DoesAsMachine (home_setting net world h) world (routes_in net) h
    (view_at net h) client_event) (tells : IsToldByHome (home_setting net world h) world
    (by_machine (settings_of net) world h client_event).state (routes_in net) h (view_at net h)
    client_event) where
  abbrev s : ItemSetting
  s = home_setting net world h

  abbrev after : World
  after = (by_machine (settings_of net) world h client_event).state

  abbrev source : Name → Name
  source = from_one world.links h

  -- ---- few lines

  module _ (client : ℕ) where
    abbrev effects : ℕ
    effects = length (effects_at (machine_at (settings_of net) world h) client_event)

    goes_on : IsGoingOn s no_answers after source (routes_in net) new client
        (owed_now net client ++ (by_machine (settings_of net) world h client_event).out client)
        (side_state_of s world (routes_in net)) (λ t. deeds_at s world h client_event)
    goes_on = client_goes_on laws given at_home tells client

    next_few : (t : Name) → s.streams.depth t ≡ 1
        → length (under_way (relayed s new client) (s.streams.parent t) t) ≤ effects
    next_few t one =
        subst (λ (lines : List (List ℕ)). length lines ≤ effects) (sym on_its_way)
        (tells.few t (view_at new t) near.linked_to taker)
      where
        near : IsNextTo world.links h t
        near = next_to world.links given.holds.sound.forest h t one

        taker : Fits s t (side_state_of s world (routes_in net) t) (view_at new t)
        taker = fits_taker laws given at_home tells client t (omega arith)

        on_its_way : under_way (relayed s new client) (s.streams.parent t) t
            ≡ lines_on (number s t) (client_told (view_at net h) client_event).out
        on_its_way = ap (λ p. under_way (relayed s new client) p t) near.parent
            ∙ from_home laws given at_home tells client t

    few : AreFew (λ e o. e ≡ h) world.links s new client (λ t. deeds_at s world h client_event)
        (λ e o. 0) (λ e o. effects)
    few = record {
      at_end = λ e o is.
          let none = ap (λ v. distance world.links v (from_one world.links h v)) is
          ∙ home_depth world.links given.holds.sound.forest h in
          le_of_eq (ap (λ (lines : List (List ℕ)). length lines) (none_at_source goes_on e none));
      next = λ t e o ends on two one. next_few t one;
      told = λ t e o ends on.
          le_of_eq
          (length-map (effects_at (machine_at (settings_of net) world h) client_event) does);
    }

    few_come : lines_coming (machine s client) s.streams (relayed s new client) net.names
        ≤ effects * (part_size (settings_of net) world.links h - 1)
    few_come =
        let most = few_from_one goes_on (stands_from_one world.links given.holds.sound.forest h) few
        net.names h refl (λ e o is. is)
        (given.step.sound.set_up.once h given.among) in
        let size = part_counted net given.step.sound.set_up world.links h in
        turned (lines_coming (machine s client) s.streams (relayed s new client) net.names)
        (count_by (joined world.links h) net.names - 1) effects
        (part_size (settings_of net) world.links h - 1) most (ap (λ n. n - 1) size)

  -- ---- where that brings the network

  pending : (client : ℕ) → lines_pending (machine s client) s.streams
      (relayed s new client) net.names no_answers.answered no_answers.one no_answers.other
      ≤ most (settings_of net) (world_now net) item
  pending client =
      let here = few_come client in
      let allowed = given.few in
      let once = none_pending (machine s client) s.streams (relayed s new client) net.names in
      omega arith

  called : (x y : Name) → AreLinked world.links x y → HasCalled s new x y ⊎ HasCalled s new y x
  called x y l = inl (is_met (by (tell y h)))
    where
      back : AreLinked world.links y x
      back = linked_back world.links x y l

      x_among : IsAmong net.names x
      x_among = ends laws.events.at_rest given x y l

      y_among : IsAmong net.names y
      y_among = ends laws.events.at_rest given y x back

      by : Telling y h → is_met_with s (view_at new y) x ≡ true
      by (alike _ e) = linked_met s after (routes_in net) y x (view_at new y)
          (subst (λ v. Fits s v (side_state_of s after (routes_in net) v) (view_at new v)) (sym e)
          (fits_home laws given at_home tells)) x_among back
      by (unlike _ two) = linked_met s world (routes_in net) y x (view_at new y)
          (subst (Fits s y (side_state_of s world (routes_in net) y))
          (sym (given.served.other_views y two))
          (fits_before laws given at_home tells y y_among)) x_among back

  -- a way goes on as it did
  same_way : (x : Name) (place : ℕ) → is_some (way_at new x place) ≡ is_some (way_at net x place)
  same_way x place = by (tell x h)
    where
      by : Telling x h → is_some (way_at new x place) ≡ is_some (way_at net x place)
      by (alike _ e) =
          ap (λ v. is_some (way_at new v place)) e ∙ ap is_some (given.served.way place)
          ∙ is_some-map (λ lines. lines ++ lines_on place (done_at net h client_event).out)
          (way_at net h place) ∙ sym (ap (λ v. is_some (way_at net v place)) e)
      by (unlike _ two) = ap is_some (given.served.other_ways x place two)

  comes : ComesTo net new item world.homes
      (by_machine (settings_of net) world h client_event) source
      (routes_in net) no_answers
  comes = record {
    covers = one_covers world.links h;
    right = right_here laws.events.at_rest given;
    called = called;
    under_way = λ client. begins (goes_on client);
    few = pending;
    ways = λ x y. same_way x (number s y) ∙ given.step.sound.ways x y
        ∙ ap (λ links. linked links x y) given.links;
    to_servers =
        λ x place there. given.step.sound.to_servers x place (sym (same_way x place) ∙ there);
  }

  pub client_sound : IsSound new
  client_sound = item_sound laws.only_connected given.step comes
