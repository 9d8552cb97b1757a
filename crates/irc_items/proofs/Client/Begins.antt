-- A client's item begins: where it comes to once all its lines are taken.
use Rattle.std.proofs.Common.{◌≡◌, ◌≢◌, ◌⊎◌, ℕ, ◌<◌, ◌≤◌, Bool, true, false, Option, Some, None}
use Rattle.std.proofs.Common.{is_some, List, [], ◌∷◌, ◌++◌, length, refl, sym, ap, subst, ◌∙◌}
use Rattle.std.proofs.Common.{arith, inl, inr, unwrap_or}
use Rattle.std.specs.FinMap.{get}
use Rattle.std.specs.List.{list_any}
use Rattle.std.specs.Option.{option_and_then, option_map}
use Rattle.irc_batch.specs.Batches.{Sent}
use Rattle.irc_merge.specs.Deeds.{Deed}
use Rattle.irc_relay.specs.Distances.{IsAmong}
use Rattle.irc_relay.specs.Following.{Tells, Starts, all_seen}
use Rattle.irc_relay.specs.Lemmas.TellingNames.{Telling, alike, unlike, tell}
use Rattle.irc_relay.specs.Links.{Name, part, same, linked, AreJoined, AreLinked}
use Rattle.irc_relay.specs.Relay.{from_one, under_way, GoesAway}
use Rattle.irc_relay.specs.Lemmas.StreamsFlow.{from_source_goes_away, one_covers}
use Rattle.irc_relay.specs.Lemmas.NextHops.{linked_joined}
use Rattle.irc_relay.specs.Lemmas.LinkTakenOut.{tests_tell}
use Rattle.irc_routes.specs.Known.{Known}
use Rattle.irc_stage.specs.declared.clients.Client.{Client}
use Rattle.irc_stage.specs.ClientTold.{client_told}
use Rattle.irc_stage.specs.Handle.{ClientEvent}
use Rattle.irc_stage.specs.View.{View}
use Rattle.irc_server.specs.Owed.{lines_to}
use Rattle.irc_server.specs.Served.{Served, of_client, served}
use Rattle.irc_world.specs.Bounds.{effects_at}
use Rattle.irc_world.specs.Bystanders.{OnlyConnectedReceive, OtherPartsStay}
use Rattle.irc_world.specs.Refused.{open_client}
use Rattle.irc_world.specs.Stepping.{Item, Stepped, by_machine, step}
use Rattle.irc_world.specs.World.{World, home_in, machine_at}
use Rattle.irc_follow.specs.AtRest.{side_state_of}
use Rattle.irc_follow.specs.Fits.{Fits}
use Rattle.irc_follow.specs.SideState.{ItemSetting, is_home_of, number}
use Rattle.irc_follow.specs.Says.{lines_on, machine, play}
use Rattle.irc_follow.specs.Tree.{index_in}
use Rattle.irc_follow.specs.Lemmas.SidesFollowed.{IsKnownOfLine}
use Rattle.irc_follow.specs.Lemmas.SaidEffectShown.{append_nil}
use Rattle.irc_network.specs.Laws.{RestStays}
use Rattle.irc_network.specs.Network.{Network, received_by}
use Rattle.irc_items.specs.GoodLines.{no_answers}
use Rattle.irc_items.specs.Relayed.{owed_to, relayed, way_at, way_between}
use Rattle.irc_items.specs.SetUp.{no_view, routes_in, settings_of, view_at}
use Rattle.irc_items.specs.Sound.{owed_now, world_now}
use Rattle.irc_items.proofs.Common.Begun.{IsBegun, IsGoingOn}
use Rattle.irc_items.proofs.Client.Side.{below_among, fits_here, fixed_here, home_setting, of_world}
use Rattle.irc_items.proofs.Client.Side.{right_here, IsClientStep}
use Rattle.irc_items.proofs.Good.GoodLines.{good_terms, well_follow}
use Rattle.irc_items.proofs.Home.Fits.{DoesAsMachine}
use Rattle.irc_items.proofs.Client.OtherServers.{comes_to_world, deeds_at, elsewhere_stays}
use Rattle.irc_items.proofs.Client.OtherServers.{shows_its_clients, IsKnownOfEvents}
use Rattle.irc_items.proofs.Common.Reading.{home_is, no_way, owed_by_none, put_behind}
use Rattle.irc_items.proofs.Common.Rest.{nothing_owed, quiet_ways}
use Rattle.irc_items.specs.Lemmas.SetUpFacts.{viewed_nowhere}
use Rattle.irc_items.proofs.Common.SourceFacts.{IsFartherFrom, IsNextTo, at_no_depth, farther}
use Rattle.irc_items.proofs.Common.SourceFacts.{next_to, source_of_farther, stands_from_one}
use Rattle.irc_items.proofs.Common.Sources.{starts_from, one_moment}

-- what is put out on links tells whoever is linked to the client's server of its effects, and goes
-- well in the world that they make
pub record IsToldByHome (s : ItemSetting) (world after : World) (routes : Name → Known) (h : Name)
    (view : View) (client_event : ClientEvent) : Type 0 where
  pub told : (u : Name) (other : View) (client : ℕ)
      → AreLinked world.links h u → Fits s u (side_state_of s world routes u) other
      → Tells (machine s client) (play s client) (good_terms s no_answers after routes) h u
      (side_state_of s world routes u) other (deeds_at s world h client_event)
      (lines_on (number s u) (client_told view client_event).out)
  pub few : (u : Name) (other : View) → AreLinked world.links h u
      → Fits s u (side_state_of s world routes u) other
      → length (lines_on (number s u) (client_told view client_event).out)
      ≤ length (effects_at (machine_at s.settings world h) client_event)
  pub unlinked : (u : Name) → (AreLinked world.links h u → ⊥)
      → lines_on (number s u) (client_told view client_event).out ≡ []

served_so : (view : View) (client_event : ClientEvent)
    → served view (of_client client_event) ≡ client_told view client_event
unfolding served
served_so view client_event = refl

-- what is known of clients, of servers that follow, and of whom an item does not touch
pub record AreClientLaws : Type 0 where
  pub events : IsKnownOfEvents
  pub line : IsKnownOfLine
  pub quiet : RestStays
  pub other_parts : OtherPartsStay
  pub only_connected : OnlyConnectedReceive

module _ (laws : AreClientLaws) {net base new : Network} {world : World} {h : Name}
    {client_event : ClientEvent} {item : Item}
    (given : IsClientStep net base new world h client_event item)
    (at_home : DoesAsMachine (home_setting net world h) world (routes_in net) h
    (view_at net h) client_event) (tells : IsToldByHome (home_setting net world h) world
    (by_machine (settings_of net) world h client_event).state (routes_in net) h (view_at net h)
    client_event) where
  abbrev s : ItemSetting
  s = home_setting net world h

  abbrev out : List Sent
  out = (client_told (view_at net h) client_event).out

  abbrev after : World
  after = (by_machine (settings_of net) world h client_event).state

  pub fits_before : (t : Name) → IsAmong net.names t
      → Fits s t (side_state_of s world (routes_in net) t) (view_at net t)
  fits_before = fits_here laws.events.at_rest given

  view_home : view_at new h ≡ (client_told (view_at net h) client_event).state
  view_home = given.served.state ∙ ap (λ r. r.state) (served_so (view_at net h) client_event)

  pub fits_home : Fits s h (side_state_of s after (routes_in net) h) (view_at new h)
  fits_home =
      subst (Fits s h (side_state_of s after (routes_in net) h)) (sym view_home) at_home.fits

  -- ---- what is under way

  owes_nobody : (x y : Name) → owed_to s (view_at new x) y ≡ []
  owes_nobody x y = by (tell x h)
    where
      among : (b : Bool) → list_any (same x) net.names ≡ b → owed_to s (view_at net x) y ≡ []
      among true e = nothing_owed s world (routes_in net) x (view_at net x) (fits_before x e) y
      among false e = ap (λ o. owed_to s (unwrap_or o no_view) y) (viewed_nowhere net x e)
          ∙ owed_by_none s y

      by : Telling x h → owed_to s (view_at new x) y ≡ []
      by (alike _ e) = ap (λ v. owed_to s (view_at new v) y) e
          ∙ nothing_owed s after (routes_in net) h (view_at new h) fits_home y
      by (unlike _ two) = ap (λ view. owed_to s view y) (given.served.other_views x two)
          ∙ among (list_any (same x) net.names) refl

  same_place : (y : Name) → index_in new.names y ≡ number s y
  same_place y = ap (λ names. index_in names y) given.step.taken.names

  queued_home : (y : Name) → unwrap_or (way_between new h y) [] ≡ lines_on (number s y) out
  queued_home y =
      ap (λ place. unwrap_or (way_at new h place) []) (same_place y)
      ∙ ap (λ o. unwrap_or o []) (given.served.way (number s y))
      ∙ ap (λ (r : Served). unwrap_or (option_map (λ before. before ++ lines_on (number s y) r.out)
      (way_at net h (number s y))) [])
      (served_so (view_at net h) client_event)
      ∙ by (linked world.links h y) refl
    where
      there : is_some (way_at net h (number s y)) ≡ linked world.links h y
      there = given.step.sound.ways h y ∙ ap (λ links. linked links h y) given.links

      by : (b : Bool) → linked world.links h y ≡ b
          → unwrap_or (option_map (λ before. before ++ lines_on (number s y) out)
          (way_at net h (number s y))) [] ≡ lines_on (number s y) out
      by true e = put_behind (way_at net h (number s y)) (lines_on (number s y) out) (there ∙ e)
          (quiet_ways laws.quiet net given.step.rest h (number s y))
      by false e = no_way (way_at net h (number s y)) (lines_on (number s y) out) (there ∙ e)
          ∙ sym (tells.unlinked y (λ l. let x = sym ((tests_tell world.links h y y).2.1 l)
          ∙ e in cc x))

  queued_elsewhere : (x y : Name) → x ≢ h → unwrap_or (way_between new x y) [] ≡ []
  queued_elsewhere x y two =
      ap (λ o. unwrap_or o []) (given.served.other_ways x (index_in new.names y) two)
      ∙ quiet_ways laws.quiet net given.step.rest x (index_in new.names y)

  module _ (client : ℕ) where
    pub from_home : (y : Name) → under_way (relayed s new client) h y ≡ lines_on (number s y) out
    from_home y = ap (λ lines. lines ++ owed_to s (view_at new h) y) (queued_home y)
        ∙ ap (λ lines. lines_on (number s y) out ++ lines) (owes_nobody h y)
        ∙ append_nil (lines_on (number s y) out)

    from_elsewhere : (x y : Name) → x ≢ h → under_way (relayed s new client) x y ≡ []
    from_elsewhere x y two = ap (λ lines. lines ++ owed_to s (view_at new x) y)
        (queued_elsewhere x y two) ∙ owes_nobody x y

    -- ---- it begins

    abbrev deeds : List Deed
    deeds = deeds_at s world h client_event

    one_part : (t p : Name) → AreJoined world.links t p
        → side_state_of s world (routes_in net) t ≡ side_state_of s world (routes_in net) p
    one_part t p together = one_moment world.links world.links world.links
        (routes_in net) world.hall t p together together
        (given.holds.sound.one_hall t p together)

    far : (t : Name) → 0 < s.streams.depth t → IsFartherFrom world.links h t
    far t below = farther world.links given.holds.sound.forest h t below

    pub fits_taker : (t : Name) → 0 < s.streams.depth t
        → Fits s t (side_state_of s world (routes_in net) t) (view_at new t)
    fits_taker t below = subst (Fits s t (side_state_of s world (routes_in net) t))
        (sym (given.served.other_views t (far t below).other))
        (fits_before t (below_among laws.events.at_rest given t below))

    told_first : (t : Name) → s.streams.depth t ≡ 1
        → Tells (machine s client) (play s client) (good_terms s no_answers after (routes_in net))
        (s.streams.parent t) t (side_state_of s world (routes_in net) t)
        (view_at new t) deeds (under_way (relayed s new client) (s.streams.parent t) t)
    told_first t one =
        subst (λ p. Tells (machine s client) (play s client) (good_terms s no_answers after
        (routes_in net)) p t (side_state_of s world (routes_in net) t)
        (view_at new t) deeds (under_way (relayed s new client) p t)) (sym near.parent)
        (subst (Tells (machine s client) (play s client) (good_terms s no_answers after
        (routes_in net)) h t (side_state_of s world (routes_in net) t)
        (view_at new t) deeds) (sym (from_home t))
        (tells.told t (view_at new t) client near.linked_to (fits_taker t (omega arith))))
      where
        near : IsNextTo world.links h t
        near = next_to world.links given.holds.sound.forest h t one

    starts : Starts (machine s client) (play s client)
        (good_terms s no_answers after (routes_in net)) s.streams (relayed s new client)
        (side_state_of s world (routes_in net)) (λ t. deeds)
    starts = starts_from no_answers after (routes_in net) new client
        (stands_from_one world.links given.holds.sound.forest h) (omega arith)
        (record { one_side = one_part; one_list = λ t p together. refl }) fits_taker told_first
        (λ t above deep. from_elsewhere (s.streams.parent t) t
        (far (s.streams.parent t) above).other)

    away : GoesAway s.streams (relayed s new client)
    away = from_source_goes_away world.links (from_one world.links h)
        (relayed s new client) given.holds.sound.forest
        (λ x y line lines is. by x y (tell x h) line lines is)
      where
        by : (x y : Name) → Telling x h → (line : List ℕ) (lines : List (List ℕ))
            → under_way (relayed s new client) x y ≡ line ∷ lines
            → AreLinked world.links x y × (from_one world.links h y ≡ x)
        by x y (unlike _ two) line lines is =
            absurd (let e = sym (from_elsewhere x y two) ∙ is in cc e)
        by x y (alike _ e) line lines is =
            subst (λ v. AreLinked world.links v y × (from_one world.links h y ≡ v)) (sym e)
            (linked_home (linked world.links h y) refl)
          where
            linked_home : (b : Bool) → linked world.links h y ≡ b
                → AreLinked world.links h y × (from_one world.links h y ≡ h)
            linked_home true so =
                let l = (tests_tell world.links h y y).2.0 so in (
                  l,
                  source_of_farther world.links given.holds.sound.forest h y
                      (sym (linked_joined world.links h y l)),
                )
            linked_home false so =
                absurd (let n = sym (ap (λ v. under_way (relayed s new client) v y) e ∙ from_home y
                ∙ tells.unlinked y (λ l. let x = sym ((tests_tell world.links h y y).2.1 l) ∙ so in
                cc x)) ∙ is in cc n)

    -- ---- what is received

    abbrev lines : List (List ℕ)
    lines = (by_machine (settings_of net) world h client_event).out client

    abbrev owed : List (List ℕ)
    owed = owed_now net client ++ lines

    received : (t : Name) → is_home_of world.homes t client ≡ true
        → received_by new client ≡ owed_now net client ++ lines_to client out
    received t is =
        given.served.received client t (ap (λ homes. home_in homes client) given.homes
        ∙ home_is world.homes client t is)
        ∙ ap (λ (r : Served). received_by net client ++ lines_to client r.out)
        (served_so (view_at net h) client_event)
        ∙ ap (λ before. before ++ lines_to client out) (given.step.one.received client)

    none_put_out : (t : Name) → is_home_of world.homes t client ≡ true → t ≢ h
        → lines_to client out ≡ []
    none_put_out t is two = by (lines_to client out) refl
      where
        by : (some : List (List ℕ)) → lines_to client out ≡ some → lines_to client out ≡ []
        by [] e = e
        by (line ∷ more) e = absurd (let same_home = sym (home_is world.homes client t is)
            ∙ home_is world.homes client h (at_home.own client line more e) in two (cc same_home))

    abbrev before : World
    before = world_now net

    none_lines : (t : Name) → is_home_of world.homes t client ≡ true
        → (AreJoined world.links t h → ⊥) → lines ≡ []
    none_lines t is apart = sym (ap (λ (st : Stepped). st.out client) given.step.stepped)
        ∙ by (get (before.hall t).clients client) refl
      where
        open_there : (o : Option Name) → home_in before.homes client ≡ o
            → get (before.hall t).clients client ≡ None → open_client before client ≡ None
        open_there None e none =
            ap (option_and_then (λ home. get (before.hall home).clients client)) e
        open_there (Some home) e none =
            ap (option_and_then (λ home. get (before.hall home).clients client)) e
            ∙ ap (λ v. get (before.hall v).clients client) one_home ∙ none
          where
            one_home : home ≡ t
            one_home = let x = sym (given.old_homes client home
                (ap (λ homes. home_in homes client) given.step.sound.homes ∙ e))
                ∙ home_is world.homes client t is in cc x

        by : (o : Option Client) → get (before.hall t).clients client ≡ o
            → (step (settings_of net) before item).out client ≡ []
        by (Some c) e = (laws.other_parts (settings_of net) before item t given.step.holds.sound
            given.step.not_refused (given.elsewhere t apart)).lines client
            (ap is_some e)
        by None e = laws.only_connected
            (settings_of net) before item client given.step.holds.sound given.step.not_refused
            (open_there (home_in before.homes client) refl e)

    told_source : (t : Name) → is_home_of s.homes t client ≡ true → s.streams.depth t ≡ 0
        → received_by new client ≡ owed
    told_source t is none = by (at_no_depth world.links given.holds.sound.forest h t none)
      where
        by : (t ≡ h) ⊎ (AreJoined world.links t h → ⊥) → received_by new client ≡ owed
        by (inl e) = received t is ∙ ap (λ more. owed_now net client ++ more)
            (at_home.lines client (subst (λ v. is_home_of world.homes v client ≡ true) e is))
        by (inr apart) = received t is ∙ ap (λ more. owed_now net client ++ more)
            (none_put_out t is (λ e. apart (ap (part world.links) e)) ∙ sym (none_lines t is apart))

    told_others : (t : Name) → is_home_of s.homes t client ≡ true
        → 0 < s.streams.depth t → received_by new client
        ++ all_seen (play s client) t (side_state_of s world (routes_in net) t) deeds ≡ owed
    told_others t is below =
        ap (λ first. first ++ all_seen (play s client) t
        (side_state_of s world (routes_in net) t) deeds)
        (received t is ∙ ap (λ more. owed_now net client ++ more)
        (none_put_out t is (far t below).other) ∙ append_nil (owed_now net client))
        ∙ ap (λ more. owed_now net client ++ more)
        (shows_its_clients laws.events s world (routes_in net) h t client_event client
        (far t below).other (far t below).joined_to given.holds given.due is)

    at_source : (t : Name) → IsAmong net.names t → s.streams.depth t ≡ 0
        → Fits s t (side_state_of s after (routes_in net) t) (view_at new t)
    at_source t among none = by (at_no_depth world.links given.holds.sound.forest h t none)
      where
        by : (t ≡ h) ⊎ (AreJoined world.links t h → ⊥)
            → Fits s t (side_state_of s after (routes_in net) t) (view_at new t)
        by (inl e) = subst (λ v. Fits s v (side_state_of s after (routes_in net) v) (view_at new v))
            (sym e) fits_home
        by (inr apart) = subst (Fits s t (side_state_of s after (routes_in net) t))
            (sym (given.served.other_views t (λ e. apart (ap (part world.links) e))))
            (elsewhere_stays s world (routes_in net) h t client_event (view_at net t) apart
            (fits_before t among))

    pub begun : IsBegun s no_answers after (routes_in net) new client owed
        (side_state_of s world (routes_in net)) (λ t. deeds)
    begun = record {
      starts = starts;
      away = away;
      at_source = at_source;
      comes_to = λ t view among below fits. comes_to_world laws.events s world
          (routes_in net) h t client_event client view
          (fixed_here laws.events.at_rest given) given.among among (far t below).other
          (far t below).joined_to given.holds
          (of_world laws.events.at_rest given) (right_here laws.events.at_rest given)
          given.step.holds_after given.due fits;
      told_source = told_source;
      told = told_others;
    }

    pub client_goes_on : IsGoingOn s no_answers after (from_one world.links h)
        (routes_in net) new client owed (side_state_of s world (routes_in net)) (λ t. deeds)
    client_goes_on = record {
      forest = given.holds.sound.forest;
      covers = one_covers world.links h;
      streams = refl;
      follow = well_follow laws.line s client
          (fixed_here laws.events.at_rest given) no_answers after (routes_in net);
      begun = begun;
    }
