-- A network stays sound by each line that is delivered.
use Rattle.std.proofs.Common.{◌≡◌, ◌≢◌, ◌⊎◌, ℕ, zero, suc, ◌+◌, ◌<◌, ◌≤◌, Bool, true, false}
use Rattle.std.proofs.Common.{Option, Some, None, is_some, List, [], ◌∷◌, ◌++◌, length, refl, sym}
use Rattle.std.proofs.Common.{ap, subst, ◌∙◌, arith, inl, inr, unwrap_or, if◌then◌else◌}
use Rattle.std.specs.Prelude.{codes}
use Rattle.std.specs.List.{slice_get, AllByRecursion}
use Rattle.std.specs.Option.{option_map, option_map_or}
use Rattle.std.proofs.Math.Nat.{min-le_left}
use Rattle.std.proofs.lemmas.Option.{same_Some}
use Rattle.irc_names.specs.Lemmas.PlainFacts.{is_some-map}
use Rattle.irc_link_words.specs.GreetingLines.{greeting}
use Rattle.irc_line.specs.Messages.{line_text, nobody}
use Rattle.irc_line.specs.Reading.{read_of}
use Rattle.irc_relay.specs.Distances.{EndsAreAmong, IsAmong}
use Rattle.irc_relay.specs.Following.{AllAlong}
use Rattle.irc_relay.specs.Lemmas.TellingNames.{Telling, alike, unlike, tell, same_when}
use Rattle.irc_relay.specs.Lemmas.TellingNames.{same_unless}
use Rattle.irc_relay.specs.Links.{Name, distance, linked, same, AreLinked, IsForest}
use Rattle.irc_relay.specs.Relay.{streams_from, final, lines_pending, under_way, Covers, Delivers}
use Rattle.irc_relay.specs.Relay.{IsCounted, Relays, SameOutcome}
use Rattle.irc_relay.specs.Lemmas.LinesCounted.{delivery_pending}
use Rattle.irc_relay.specs.Lemmas.StreamsFlow.{covers_flows, IsFlow}
use Rattle.irc_relay.specs.Lemmas.NextHops.{distance_self, linked_other, next_hop}
use Rattle.irc_relay.specs.Lemmas.LineFactsKept.{delivery_goes_well}
use Rattle.irc_relay.specs.Lemmas.ReturnedLines.{delivery_outcome}
use Rattle.irc_relay.specs.Lemmas.DeliveryRuns.{delivery_away}
use Rattle.irc_relay.specs.Lemmas.LinkTakenOut.{tests_tell}
use Rattle.irc_stage.specs.EffectTold.{Served}
use Rattle.irc_stage.specs.Lemmas.Numbers.{one_number, same_number, same_number-is}
use Rattle.irc_stage.specs.View.{View}
use Rattle.irc_stage.specs.Ends.{is_met as has_far}
use Rattle.irc_server.specs.Owed.{lines_to}
use Rattle.irc_server.specs.Served.{IsSetAlike, ServedKeepsItsSetting, link_says}
use Rattle.irc_world.specs.Owed.{owed_by_network, world_of}
use Rattle.irc_world.specs.Sound.{AreTaken}
use Rattle.irc_world.specs.Stepping.{Item}
use Rattle.irc_world.specs.WithinLimits.{IsItemWithin}
use Rattle.irc_world.specs.World.{Setting, World, home_in, new_world}
use Rattle.irc_world.specs.WorldHolds.{IsWorld, TakenMakeWorld}
use Rattle.irc_follow.specs.AtRest.{side_state_of, AreRight}
use Rattle.irc_follow.specs.Fits.{Fits}
use Rattle.irc_follow.specs.SideState.{ItemSetting, is_home_of, number}
use Rattle.irc_follow.specs.Says.{neighbour_served as asked_line, lines_on, machine}
use Rattle.irc_follow.specs.Tree.{index_in}
use Rattle.irc_follow.specs.Lemmas.PlacesOfNames.{one_place}
use Rattle.irc_follow.specs.Lemmas.SaidEffectShown.{append_nil}
use Rattle.irc_network.specs.Network.{Progress, Network, node_asked, delivered, received_by}
use Rattle.irc_network.specs.Network.{reply}
use Rattle.irc_items.specs.GoodLines.{closings, IsGoodLine, IsGoodReply, IsUnheard}
use Rattle.irc_items.specs.Laws.{DeliveryStaysSound}
use Rattle.irc_items.specs.Relayed.{setting_of_item, is_met_with, owed_to, relayed, way_at}
use Rattle.irc_items.specs.Relayed.{way_between}
use Rattle.irc_items.specs.SetUp.{settings_of, view_at, IsConfigured}
use Rattle.irc_items.specs.Sound.{most_now, most_of_last, owed_now, world_now, is_met, is_calling}
use Rattle.irc_items.specs.Sound.{AreCalled, HasCalled, IsPlaceOf, IsSound, IsSoundFrom, IsUnderWay}
use Rattle.irc_items.proofs.Nodes.Asked.{asked_there, reply_alike, IsAskedAt}
use Rattle.irc_items.proofs.Common.AtRest.{ends_now, flowing, forest_now, holds_now}
use Rattle.irc_items.proofs.Common.Reading.{home_is}
use Rattle.irc_items.proofs.Nodes.Delivered.{delivered_between, IsDeliveredTo}
use Rattle.irc_items.proofs.Delivery.FirstOnWay.{goes_well}
use Rattle.irc_items.proofs.Handshake.Greetings.{GreetingIsMet}
use Rattle.irc_items.proofs.Delivery.Unheard.{all_go_well, all_harmless}

pub record AreDeliveryLaws : Type 0 where
  pub kept : ServedKeepsItsSetting
  pub world : TakenMakeWorld
  pub greeting_met : GreetingIsMet

-- how many lines are coming to servers, as no client sees them
abbrev pub pending_of : (net : Network) → IsSound net → ℕ
pending_of net sound =
    lines_pending (machine (flowing net sound) 0) (flowing net sound).streams
    (relayed (flowing net sound) net 0) net.names sound.asks.answered sound.asks.one
    sound.asks.other

-- a line fewer is coming
pub record IsOneFewer (old new : Progress Network) (sound : IsSound old.state) : Type 0 where
  pub sound_now : IsSound new.state
  pub fewer : pending_of new.state sound_now < pending_of old.state sound

put_more : (o : Option (List (List ℕ))) (lines : List (List ℕ)) → (is_some o ≡ false → lines ≡ [])
    → unwrap_or (option_map (λ before. before ++ lines) o) [] ≡ unwrap_or o [] ++ lines
put_more None lines none = sym (none refl)
put_more (Some before) lines none = refl

append_both : (a b c : List (List ℕ)) → (a ++ b) ++ c ≡ a ++ (b ++ c)
append_both [] b c = refl
append_both (x ∷ a) b c = ap (λ lines. x ∷ lines) (append_both a b c)

module _ (laws : AreDeliveryLaws) (old new : Progress Network) (sound : IsSound old.state)
    (p t : Name)
    (line : List ℕ) (d : IsDeliveredTo p t line old new) where
  abbrev s : ItemSetting
  s = flowing old.state sound

  abbrev view : View
  view = view_at old.state t

  abbrev after : Served
  after = asked_line s p view line

  holds : IsWorld (settings_of old.state) (world_now old.state)
  holds = holds_now laws.world old.state sound

  forest : IsForest old.state.links
  forest = forest_now old.state sound holds

  ends : EndsAreAmong old.state.names old.state.links
  ends = ends_now old.state sound holds

  flow : IsFlow old.state.links s.streams
  flow = covers_flows old.state.links sound.source forest sound.coming.covers

  same_links : (world_now old.state).links ≡ old.state.links
  same_links = sym sound.links

  linked_pt : AreLinked old.state.links p t
  linked_pt = (tests_tell old.state.links p t t).2.0 (sym (sound.ways p t) ∙ ap is_some d.waited)

  two : p ≢ t
  two = linked_other old.state.links p t forest linked_pt

  well : IsGoodLine s sound.asks (world_now old.state) sound.routes p t view line
  well = goes_well old.state sound forest p t line d.rest d.waited 0

  abbrev back : List (List ℕ)
  back = well.back

  good : IsGoodReply s (world_now old.state).links p t view after back
  good = well.good

  -- ---- what it makes

  reply_is : reply view (link_says (index_in old.state.names p) (read_of line))
      ≡ record { state = after.state; out = after.out }
  reply_is = ap (λ b. if b then record { state = after.state; out = after.out }
      else record { state = view; out = [] }) (ap is_some well.is_end)

  answered : IsAskedAt t (record { state = after.state; out = after.out }) d.mid new
  answered =
      subst (IsAskedAt t (record { state = after.state; out = after.out }) d.mid)
      (sym d.asked_is ∙ refl)
      (subst (λ place. IsAskedAt t (record { state = after.state; out = after.out }) d.mid
      (node_asked place (link_says (index_in old.state.names p) (read_of line)) d.mid))
      (ap (λ names. index_in names t) d.names)
      (subst (λ r. IsAskedAt t r d.mid (node_asked (index_in d.mid.state.names t)
      (link_says (index_in old.state.names p) (read_of line)) d.mid))
      (ap (λ v. reply v (link_says (index_in old.state.names p) (read_of line))) (d.views t)
      ∙ reply_is)
      (asked_there laws.kept d.mid d.set_up
      (ap (λ (boxes : List (List (List ℕ))). length boxes) d.received ∙ sound.inboxes
      ∙ ap (λ (homes : List Name). length homes) (sym d.homes)) t
      (subst (λ names. IsAmong names t) (sym d.names) d.t_among)
      (link_says (index_in old.state.names p) (read_of line)))))

  names_same : new.state.names ≡ old.state.names
  names_same = answered.names ∙ d.names

  view_taker : view_at new.state t ≡ after.state
  view_taker = answered.state

  view_other : (u : Name) → u ≢ t → view_at new.state u ≡ view_at old.state u
  view_other u n = answered.other_views u n ∙ d.views u

  -- ways from t have what is put out behind the others
  way_taker : (place : ℕ) → way_at new.state t place ≡ option_map
      (λ lines. lines ++ lines_on place after.out) (way_at old.state t place)
  way_taker place =
      answered.way place ∙ ap (option_map (λ lines. lines ++ lines_on place after.out))
      (d.other_ways t place (λ e _. two (sym e)))

  way_other : (x : Name) (place : ℕ) → x ≢ t → (x ≡ p → place ≡ index_in old.state.names t → ⊥)
      → way_at new.state x place ≡ way_at old.state x place
  way_other x place n none = answered.other_ways x place n ∙ d.other_ways x place none

  place_same : (u : Name) → index_in new.state.names u ≡ number s u
  place_same u = ap (λ names. index_in names u) names_same

  queue_taker : (u : Name) → unwrap_or (way_between new.state t u) []
      ≡ unwrap_or (way_between old.state t u) [] ++ lines_on (number s u) after.out
  queue_taker u =
      ap (λ place. unwrap_or (way_at new.state t place) []) (place_same u)
      ∙ ap (λ o. unwrap_or o []) (way_taker (number s u))
      ∙ put_more (way_at old.state t (number s u)) (lines_on (number s u) after.out) none
    where
      none : is_some (way_at old.state t (number s u)) ≡ false
          → lines_on (number s u) after.out ≡ []
      none apart = by (lines_on (number s u) after.out) refl
        where
          by : (lines : List (List ℕ)) → lines_on (number s u) after.out ≡ lines
              → lines_on (number s u) after.out ≡ []
          by [] e = e
          by (first ∷ more) e = absurd (let l = subst (λ links. AreLinked links t u) same_links
              (good.to_linked u first more e) in
              let no = sym ((tests_tell old.state.links t u u).2.1 l) ∙ sym (sound.ways t u)
              ∙ apart in cc no)

  queue_other : (x y : Name) → x ≢ t → (x ≡ p → y ≡ t → ⊥)
      → unwrap_or (way_between new.state x y) [] ≡ unwrap_or (way_between old.state x y) []
  queue_other x y n none =
      ap (λ place. unwrap_or (way_at new.state x place) []) (place_same y)
      ∙ ap (λ o. unwrap_or o []) (way_other x (number s y) n
      (λ e f. none e (sym (one_place old.state.names t y d.t_among (sym f)))))

  queue_left : unwrap_or (way_between new.state p t) [] ≡ d.rest
  queue_left =
      ap (λ place. unwrap_or (way_at new.state p place) []) (place_same t)
      ∙ ap (λ o. unwrap_or o []) (answered.other_ways p (number s t) two ∙ d.left_is)

  module _ (client : ℕ) where
    received_home : (home : Name) → is_home_of old.state.homes home client ≡ true
        → received_by new.state client ≡ received_by old.state client ++ lines_to client after.out
    received_home home is =
        answered.received client home (ap (λ homes. home_in homes client) d.homes
        ∙ home_is old.state.homes client home is)
        ∙ ap (λ before. before ++ lines_to client after.out) (same_received client)
      where
        same_received : (client : ℕ) → received_by d.mid.state client ≡ received_by old.state client
        same_received zero = refl
        same_received (suc n) = ap (λ boxes. unwrap_or (slice_get boxes n) []) d.received

    shown_taker : (b : Bool) → is_home_of s.homes t client ≡ b
        → (relayed s new.state client).shown t
        ≡ (relayed s old.state client).shown t ++ (machine s client).shows t p view line
    shown_taker true e =
        ap (λ b. if b then received_by new.state client else []) e ∙ received_home t e
        ∙ sym (ap (λ b. (if b then received_by old.state client else [])
        ++ (if b then lines_to client after.out else [])) e)
    shown_taker false e =
        ap (λ b. if b then received_by new.state client else []) e
        ∙ sym (ap (λ b. (if b then received_by old.state client else [])
        ++ (if b then lines_to client after.out else [])) e)

    shown_other : (u : Name) → u ≢ t → (b : Bool) → is_home_of s.homes u client ≡ b
        → (relayed s new.state client).shown u ≡ (relayed s old.state client).shown u
    shown_other u n false e = ap (λ b. if b then received_by new.state client else []) e
        ∙ sym (ap (λ b. if b then received_by old.state client else []) e)
    shown_other u n true e =
        ap (λ b. if b then received_by new.state client else []) e ∙ received_home u e
        ∙ ap (λ lines. received_by old.state client ++ lines)
        (none (lines_to client after.out) refl)
        ∙ append_nil (received_by old.state client)
        ∙ sym (ap (λ b. if b then received_by old.state client else []) e)
      where
        none : (lines : List (List ℕ)) → lines_to client after.out ≡ lines
            → lines_to client after.out ≡ []
        none [] e = e
        none (first ∷ more) f = absurd
            (let one = sym (home_is old.state.homes client u e)
            ∙ home_is old.state.homes client t (good.to_own client first more f) in n (cc one))

    sent_on : (u : Name) → u ≢ p
        → under_way (relayed s new.state client) t u ≡ under_way (relayed s old.state client) t u ++
        (machine s client).sends t p view line u
    sent_on u n =
        ap (λ lines. lines ++ owed_to s (view_at new.state t) u) (queue_taker u)
        ∙ ap (λ v. (unwrap_or (way_between old.state t u) [] ++ lines_on (number s u) after.out)
        ++ owed_to s v u) view_taker
        ∙ ap (λ owed. (unwrap_or (way_between old.state t u) [] ++ lines_on (number s u) after.out)
        ++ owed) (good.others u n).owes_as_before
        ∙ by (good.others u n).in_turn
        ∙ ap (λ lines. (unwrap_or (way_between old.state t u) [] ++ owed_to s view u) ++ lines)
        (sym (ap (λ b. if b then [] else lines_on (number s u) after.out) (same_unless u p n)))
      where
        by : (lines_on (number s u) after.out ≡ []) ⊎ (owed_to s view u ≡ [])
            → (unwrap_or (way_between old.state t u) [] ++ lines_on (number s u) after.out)
            ++ owed_to s view u
            ≡ (unwrap_or (way_between old.state t u) [] ++ owed_to s view u)
            ++ lines_on (number s u) after.out
        by (inl e) =
            ap (λ lines. (unwrap_or (way_between old.state t u) [] ++ lines) ++ owed_to s view u) e
            ∙ ap (λ lines. lines ++ owed_to s view u)
            (append_nil (unwrap_or (way_between old.state t u) []))
            ∙ sym (append_nil (unwrap_or (way_between old.state t u) [] ++ owed_to s view u))
            ∙ ap (λ lines. (unwrap_or (way_between old.state t u) [] ++ owed_to s view u) ++ lines)
            (sym e)
        by (inr e) =
            ap (λ owed.
            (unwrap_or (way_between old.state t u) [] ++ lines_on (number s u) after.out)
            ++ owed) e
            ∙ append_nil (unwrap_or (way_between old.state t u) []
            ++ lines_on (number s u) after.out)
            ∙ ap (λ lines. lines ++ lines_on (number s u) after.out)
            (sym (append_nil (unwrap_or (way_between old.state t u) [])))
            ∙ ap (λ owed. (unwrap_or (way_between old.state t u) [] ++ owed)
            ++ lines_on (number s u) after.out) (sym e)

    returned : under_way (relayed s new.state client) t p ≡ under_way
        (relayed s old.state client) t p ++ back
    returned =
        ap (λ lines. lines ++ owed_to s (view_at new.state t) p) (queue_taker p)
        ∙ ap (λ v. (unwrap_or (way_between old.state t p) [] ++ lines_on (number s p) after.out)
        ++ owed_to s v p) view_taker
        ∙ append_both (unwrap_or (way_between old.state t p) []) (lines_on (number s p) after.out)
        (owed_to s after.state p)
        ∙ ap (λ lines. unwrap_or (way_between old.state t p) [] ++ lines) good.pays
        ∙ sym (append_both (unwrap_or (way_between old.state t p) []) (owed_to s view p) back)

    -- what goes back does nothing where it comes to
    abbrev at_end : View
    at_end = final (machine s client) s.streams (relayed s old.state client) p

    unheard : AllByRecursion (IsUnheard s t at_end) back
    unheard = well.answer.unheard at_end ((sound.coming.under_way client).fits p d.p_among)

    returns_well : AllAlong (machine s client) (IsGoodLine s sound.asks
        (world_now old.state) sound.routes) (s.streams.parent p) p at_end back
    returns_well = by back refl
      where
        by : (lines : List (List ℕ)) → back ≡ lines → AllAlong (machine s client)
            (IsGoodLine s sound.asks (world_now old.state) sound.routes)
            (s.streams.parent p) p at_end back
        by [] none = subst (AllAlong (machine s client) (IsGoodLine s sound.asks
            (world_now old.state) sound.routes) (s.streams.parent p) p at_end) (sym none) tt
        by (next ∷ lines) is =
            subst (λ q. AllAlong (machine s client)
            (IsGoodLine s sound.asks (world_now old.state) sound.routes) q p at_end back)
            (sym (well.answer.to_end next lines is).0) (all_go_well s t p at_end client sound.asks
            (world_now old.state) sound.routes back unheard)

    delivers : Delivers (machine s client) p t line back (relayed s old.state client)
        (relayed s new.state client)
    delivers = record {
      took = ap (λ o. unwrap_or o []) d.waited ∙ ap (λ lines. line ∷ lines) (sym queue_left);
      moved = view_taker;
      showed = shown_taker (is_home_of s.homes t client) refl;
      sent = sent_on;
      returned = returned;
      other_queues = queue_other;
      other_debts = λ x y n. ap (λ v. owed_to s v y) (view_other x n);
      other_states = view_other;
      other_shown = λ u n. shown_other u n (is_home_of s.homes u client) refl;
    }

    relays : Relays (machine s client) old.state.links s.streams p t line back
        (relayed s old.state client)
    relays = record {
      no_echo = ap (λ b. if b then [] else lines_on (number s p) after.out) (same_when p p refl);
      to_linked = λ u next lines is. by u next lines (tell u p) is;
      back_to_end = well.answer.to_end;
      back_harmless = all_harmless s t p at_end client back unheard;
    }
      where
        by : (u : Name) (next : List ℕ) (lines : List (List ℕ)) → Telling u p
            → (if same u p then [] else lines_on (number s u) after.out) ≡ next ∷ lines
            → AreLinked old.state.links t u
        by u next lines (alike so _) is = absurd (let no = sym
            (ap (λ b. if b then [] else lines_on (number s u) after.out) so) ∙ is in cc no)
        by u next lines (unlike so _) is = subst (λ links. AreLinked links t u) same_links
            (good.to_linked u next lines
            (sym (ap (λ b. if b then [] else lines_on (number s u) after.out) so) ∙ is))

  -- ---- the network afterwards

  same_settings : settings_of new.state ≡ settings_of old.state
  same_settings = answered.settings ∙ d.settings

  links_same : new.state.links ≡ old.state.links
  links_same = answered.links ∙ d.links

  homes_same : new.state.homes ≡ old.state.homes
  homes_same = answered.homes ∙ d.homes

  items_same : new.state.items ≡ old.state.items
  items_same = answered.items ∙ d.items

  fixed_same : setting_of_item new.state (streams_from new.state.links sound.source) ≡ s
  fixed_same i = record {
    settings = same_settings i;
    names = names_same i;
    homes = homes_same i;
    streams = streams_from (links_same i) sound.source;
  }

  by_items : {A : Type 0} (f : List Setting → List Item → A)
      → f (settings_of new.state) new.state.items ≡ f (settings_of old.state) old.state.items
  by_items f = ap (λ settings. f settings new.state.items) same_settings
      ∙ ap (f (settings_of old.state)) items_same

  world_is : world_now new.state ≡ world_now old.state
  world_is = by_items world_of

  counted_once : IsCounted s.streams old.state.names
  counted_once u below = sound.set_up.once u (ends u (s.streams.parent u) (takes_linked u below))
    where
      takes_linked : (u : Name) → 0 < s.streams.depth u
          → AreLinked old.state.links u (s.streams.parent u)
      takes_linked u below =
          (next_hop old.state.links u (sound.source u) forest (sound.coming.covers.joined u)
          (λ e. let z = ap (λ v. distance old.state.links v (sound.source u)) e
          ∙ distance_self old.state.links (sound.source u) in omega arith)).linked

  module _ (client : ℕ) where
    under : IsUnderWay s sound.asks (world_now old.state) sound.routes old.state client
        (owed_now old.state client)
    under = sound.coming.under_way client

    outcome : SameOutcome (machine s client) s.streams (relayed s old.state client)
        (relayed s new.state client)
    outcome = delivery_outcome (machine s client) old.state.links s.streams p t line back
        (relayed s old.state client) (relayed s new.state client) flow under.away
        (delivers client) (relays client)

    under_way_now : IsUnderWay s sound.asks (world_now old.state) sound.routes new.state client
        (owed_now old.state client)
    under_way_now = record {
      away = delivery_away (machine s client) old.state.links s.streams p t line back
          (relayed s old.state client) (relayed s new.state client) flow under.away
          (delivers client) (relays client);
      fits = λ u among. subst (Fits s u (side_state_of s (world_now old.state) sound.routes u))
          (sym (outcome.same_final u)) (under.fits u among);
      told = λ home is. outcome.same_told home ∙ under.told home is;
      well = delivery_goes_well (machine s client) old.state.links sound.source p t line back
          (relayed s old.state client) (relayed s new.state client)
          (IsGoodLine s sound.asks (world_now old.state) sound.routes) forest sound.coming.covers
          under.away (delivers client) (relays client) under.well
          (returns_well client);
    }

    abbrev pending : Network → List Name → ℕ
    pending net names = lines_pending (machine s client) s.streams
        (relayed s net client) names sound.asks.answered sound.asks.one sound.asks.other

    pending_falls : pending new.state old.state.names < pending old.state old.state.names
    pending_falls =
        delivery_pending (machine s client) old.state.links s.streams sound.asks.answered
        sound.asks.one sound.asks.other p t line back (relayed s old.state client)
        (relayed s new.state client) old.state.names flow under.away counted_once (delivers client)
        (relays client) well.answer.once

    few_now : new.state.taken + pending new.state new.state.names ≤ most_now new.state
    few_now =
        let counts = pending_falls in
        let names = ap (pending new.state) names_same in
        let most = by_items (λ settings items. most_of_last settings new_world items) in
        let few = sound.coming.few client in
        let taken = answered.taken ∙ d.counted_is in
        bound old.state.taken new.state.taken (pending old.state old.state.names)
        (pending new.state old.state.names) (pending new.state new.state.names) (most_now old.state)
        (most_now new.state) counts names most few
        (subst (λ n. n ≤ old.state.taken + 1) (sym taken)
        (min-le_left (old.state.taken + 1) 18446744073709551615))
      where
        bound : (taken taken_now before now at_names most most_same : ℕ) → now < before
            → at_names ≡ now → most_same ≡ most → taken + before ≤ most → taken_now ≤ taken + 1
            → taken_now + at_names ≤ most_same
        bound taken taken_now before now at_names most most_same one names same few less =
            omega arith

  -- ---- who has called whom

  greeting_same : (x : Name)
      → greeting (view_at new.state x).routes ≡ greeting (view_at old.state x).routes
  greeting_same x = by (tell x t)
    where
      alike_after : IsSetAlike view after.state
      alike_after = subst (λ (r : Served). IsSetAlike view r.state) reply_is
          (reply_alike laws.kept view (link_says (index_in old.state.names p) (read_of line)))

      by : Telling x t
          → greeting (view_at new.state x).routes ≡ greeting (view_at old.state x).routes
      by (unlike _ n) = ap (λ (v : View). greeting v.routes) (view_other x n)
      by (alike _ e) =
          ap (λ v. greeting (view_at new.state v).routes) e
          ∙ ap (λ (v : View). greeting v.routes) view_taker
          ∙ (λ i. record {
            sender = nobody;
            command = codes "SERVER";
            middle = alike_after.name i ∷ codes "1" ∷ codes "1" ∷ [];
            last =
                Some (alike_after.about i).info;
          })
          ∙ sym (ap (λ v. greeting (view_at old.state v).routes) e)

  still_met : (y x : Name) → is_met_with s (view_at old.state y) x ≡ true
      → is_met_with s (view_at new.state y) x ≡ true
  still_met y x is = by (tell y t)
    where
      by : Telling y t → is_met_with s (view_at new.state y) x ≡ true
      by (unlike _ n) = ap (λ v. is_met_with s v x) (view_other y n) ∙ is
      by (alike _ e) =
          ap (λ v. is_met_with s (view_at new.state v) x) e ∙ ap (λ v. is_met_with s v x) view_taker
          ∙ good.met_stay x (sym (ap (λ v. is_met_with s (view_at old.state v) x) e) ∙ is)

  -- the line by which p names itself, at t
  greeted : line ≡ line_text (greeting (view_at old.state p).routes)
      → is_met_with s after.state p ≡ true
  greeted is = by (has_far well.end) refl
    where
      met_before : has_far well.end ≡ true → is_met_with s view p ≡ true
      met_before m = ap (λ o. option_map_or has_far o false) well.is_end ∙ m

      configured : IsConfigured (view_at old.state p)
      configured = sound.set_up.configured p d.p_among

      greeted_line : (l : List ℕ) → l ≡ line_text (greeting (view_at old.state p).routes)
          → has_far well.end ≡ false → closings (asked_line s p view l).out ≡ []
          → is_met_with s (asked_line s p view l).state p ≡ true
      greeted_line l e not_met open_still =
          subst (λ l. is_met_with s (asked_line s p view l).state p ≡ true) (sym e)
          (laws.greeting_met view (number s p) well.end
          (view_at old.state p).routes well.is_end not_met configured.name configured.about.info
          (subst (λ l. closings (asked_line s p view l).out ≡ []) e open_still))

      by : (b : Bool) → has_far well.end ≡ b → is_met_with s after.state p ≡ true
      by true e = good.met_stay p (met_before e)
      by false e = greeted_line line is e good.closes_none

  first_of : (a b : List ℕ) (xs ys : List (List ℕ)) → a ∷ xs ≡ b ∷ ys → a ≡ b
  first_of a b xs ys e = cc e

  rest_of : (a b : List ℕ) (xs ys : List (List ℕ)) → a ∷ xs ≡ b ∷ ys → xs ≡ ys
  rest_of a b xs ys e = cc e

  calling_now : (x y : Name) (before behind : List (List ℕ)) → way_between old.state x y ≡ Some
      (before ++ line_text (greeting (view_at old.state x).routes) ∷ behind)
      → HasCalled s new.state x y
  calling_now x y before behind is = by (tell x p) (tell y t) (tell x t)
    where
      keeps : way_between new.state x y ≡ Some (before
          ++ line_text (greeting (view_at old.state x).routes) ∷ behind) → HasCalled s new.state x y
      keeps e = is_calling before behind
          (e ∙ ap (λ g. Some (before ++ line_text g ∷ behind)) (sym (greeting_same x)))

      same_way : x ≢ t → (x ≡ p → y ≡ t → ⊥) → HasCalled s new.state x y
      same_way n none =
          keeps (ap (λ place. way_at new.state x place) (place_same y) ∙ way_other x (number s y) n
          (λ e f. none e (sym (one_place old.state.names t y d.t_among (sym f)))) ∙ is)

      from_taker : x ≡ t → HasCalled s new.state x y
      from_taker e = is_calling before (behind ++ lines_on (number s y) after.out)
          (ap (λ v. way_between new.state v y) e
          ∙ ap (λ place. way_at new.state t place) (place_same y)
          ∙ way_taker (number s y)
          ∙ ap (option_map (λ lines. lines ++ lines_on (number s y) after.out))
          (ap (λ v. way_between old.state v y) (sym e) ∙ is)
          ∙ ap Some (append_both before (line_text (greeting (view_at old.state x).routes) ∷ behind)
          (lines_on (number s y) after.out))
          ∙ ap (λ g. Some (before ++ line_text g ∷ (behind ++ lines_on (number s y) after.out)))
          (sym (greeting_same x)))

      -- the way on which the line was
      on_way : (before : List (List ℕ)) → x ≡ p → y ≡ t → line ∷ d.rest ≡ before
          ++ line_text (greeting (view_at old.state x).routes) ∷ behind → HasCalled s new.state x y
      on_way [] e f parts = is_met (ap (λ v. is_met_with s (view_at new.state v) x) f
          ∙ ap (λ v. is_met_with s v x) view_taker
          ∙ ap (λ v. is_met_with s after.state v) e
          ∙ greeted
          (first_of line (line_text (greeting (view_at old.state x).routes)) d.rest behind parts
          ∙ ap (λ v. line_text (greeting (view_at old.state v).routes)) e))
      on_way (first ∷ more) e f parts = is_calling more behind
          (ap (λ v. way_between new.state v y) e ∙ ap (λ v. way_between new.state p v) f
          ∙ ap (λ place. way_at new.state p place) (place_same t)
          ∙ answered.other_ways p (number s t) two ∙ d.left_is
          ∙ ap Some (rest_of line first d.rest
          (more ++ line_text (greeting (view_at old.state x).routes) ∷ behind) parts)
          ∙ ap (λ g. Some (more ++ line_text g ∷ behind)) (sym (greeting_same x)))

      by : Telling x p → Telling y t → Telling x t → HasCalled s new.state x y
      by _ _ (alike _ e) = from_taker e
      by (alike _ e) (alike _ f) (unlike _ n) = on_way before e f
          (same_Some (line ∷ d.rest)
          (before ++ line_text (greeting (view_at old.state x).routes) ∷ behind)
          (sym d.waited ∙ ap (λ v. way_between old.state v t) (sym e)
          ∙ ap (λ v. way_between old.state x v) (sym f) ∙ is))
      by (alike _ e) (unlike _ m) (unlike _ n) = same_way n (λ _ f. m f)
      by (unlike _ m) _ (unlike _ n) = same_way n (λ e _. m e)

  called_now : (x y : Name) → HasCalled s old.state x y → HasCalled s new.state x y
  called_now x y (is_met m) = is_met (still_met y x m)
  called_now x y (is_calling before behind is) = calling_now x y before behind is

  called : AreCalled s new.state
  called x y l = by (sound.coming.called x y (subst (λ links. AreLinked links x y) links_same l))
    where
      by : HasCalled s old.state x y ⊎ HasCalled s old.state y x
          → HasCalled s new.state x y ⊎ HasCalled s new.state y x
      by (inl c) = inl (called_now x y c)
      by (inr c) = inr (called_now y x c)

  coming_now : IsSoundFrom sound.source sound.routes sound.asks new.state s
  coming_now = record {
    covers = subst (λ links. Covers links sound.source) (sym links_same) sound.coming.covers;
    right = subst (λ links. AreRight s links sound.routes) (sym links_same) sound.coming.right;
    called = called;
    under_way = λ client. subst (λ w. IsUnderWay s sound.asks w sound.routes new.state client
        (owed_now new.state client)) (sym world_is)
        (subst (IsUnderWay s sound.asks (world_now old.state) sound.routes new.state client)
        (sym (by_items (λ settings items. owed_by_network settings items client)))
        (under_way_now client));
    few = few_now;
  }

  some_way : (x : Name) (place : ℕ)
      → is_some (way_at new.state x place) ≡ is_some (way_at old.state x place)
  some_way x place = by (tell x t) (tell x p) (same_number place (index_in old.state.names t)) refl
    where
      by : Telling x t → Telling x p → (b : Bool) → same_number place (index_in old.state.names t)
          ≡ b → is_some (way_at new.state x place) ≡ is_some (way_at old.state x place)
      by (alike _ e) _ _ _ =
          ap (λ v. is_some (way_at new.state v place)) e ∙ ap is_some (way_taker place)
          ∙ is_some-map (λ lines. lines ++ lines_on place after.out) (way_at old.state t place)
          ∙ sym (ap (λ v. is_some (way_at old.state v place)) e)
      by (unlike _ n) (alike _ e) true k =
          let at = one_number place (index_in old.state.names t) k in
          ap (λ v. is_some (way_at new.state v place)) e
          ∙ ap (λ k. is_some (way_at new.state p k)) at
          ∙ ap is_some (answered.other_ways p (index_in old.state.names t) two ∙ d.left_is)
          ∙ sym (ap is_some (ap (λ v. way_at old.state v place) e
          ∙ ap (λ k. way_at old.state p k) at ∙ d.waited))
      by (unlike _ n) (alike _ e) false k = ap is_some (way_other x place n
          (λ _ f. let no = sym (same_number-is place (index_in old.state.names t) f) ∙ k in cc no))
      by (unlike _ n) (unlike _ m) _ _ = ap is_some (way_other x place n (λ e _. m e))

  pub delivered_sound : IsSound new.state
  delivered_sound = record {
    set_up = answered.set_up;
    taken = subst (λ settings. AreTaken settings new_world new.state.items) (sym same_settings)
        (subst (AreTaken (settings_of old.state) new_world) (sym items_same) sound.taken);
    within = subst (AllByRecursion IsItemWithin) (sym items_same) sound.within;
    links = links_same ∙ sound.links ∙ sym (ap (λ (w : World). w.links) world_is);
    homes = homes_same ∙ sound.homes ∙ sym (ap (λ (w : World). w.homes) world_is);
    inboxes = answered.inboxes ∙ ap (λ (boxes : List (List (List ℕ))). length boxes) d.received
        ∙ sound.inboxes
        ∙ ap (λ (homes : List Name). length homes) (sym homes_same);
    ways = λ x y. ap (λ place. is_some (way_at new.state x place)) (place_same y)
        ∙ some_way x (number s y) ∙ sound.ways x y
        ∙ ap (λ links. linked links x y) (sym links_same);
    to_servers =
        λ x place is. placed place (sound.to_servers x place (sym (some_way x place) ∙ is));
    nobody = λ client none. by_items (λ settings items. owed_by_network settings items client)
        ∙ sound.nobody client (ap (λ homes. home_in homes client) (sym homes_same) ∙ none);
    source = sound.source;
    routes = sound.routes;
    asks = sound.asks;
    coming = subst (IsSoundFrom sound.source sound.routes sound.asks new.state)
        (sym fixed_same) coming_now;
  }
    where
      placed : (place : ℕ) → IsPlaceOf old.state place → IsPlaceOf new.state place
      placed place at = record {
        server = at.server;
        among = subst (λ names. IsAmong names at.server) (sym names_same) at.among;
        is = ap (λ names. index_in names at.server) names_same ∙ at.is;
      }

  fewer_now : pending_of new.state delivered_sound < pending_of old.state sound
  unfolding delivered_sound
  fewer_now =
      subst (λ (f : ItemSetting). lines_pending (machine f 0) f.streams
      (relayed f new.state 0) new.state.names sound.asks.answered sound.asks.one sound.asks.other
      < pending_of old.state sound)
      (sym fixed_same)
      (subst (λ names. pending 0 new.state names < pending 0 old.state old.state.names)
      (sym names_same) (pending_falls 0))

  pub one_fewer : IsOneFewer old new sound
  one_fewer = record { sound_now = delivered_sound; fewer = fewer_now }

pub leaves_one_fewer : AreDeliveryLaws → (from to : ℕ) (old new : Progress Network)
    (sound : IsSound old.state) → delivered from to old ≡ Some new → IsOneFewer old new sound
leaves_one_fewer laws from to old new sound is =
    let d = delivered_between old sound from to new is in
    one_fewer laws old new sound d.giver d.taker d.line d.delivered_to

pub delivery_stays_sound : AreDeliveryLaws → DeliveryStaysSound
delivery_stays_sound laws from to old new sound is =
    let d = delivered_between old sound from to new is in
    delivered_sound laws old new sound d.giver d.taker d.line d.delivered_to
