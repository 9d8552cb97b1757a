-- A network is sound once a link of it is lost.
use Rattle.std.proofs.Common.{inr, ◌≡◌, ◌≢◌, ℕ, suc, ◌+◌, ◌*◌, ◌-◌, ◌<◌, ◌≤◌, Bool, true, false}
use Rattle.std.proofs.Common.{is_some, List, [], ◌∷◌, ◌++◌, length, count_by, refl, sym, ap, subst}
use Rattle.std.proofs.Common.{◌∙◌, arith, inl, if◌then◌else◌, le_of_eq}
use Rattle.std.proofs.lemmas.List.{length-map}
use Rattle.std.specs.FinMap.{get}
use Rattle.std.specs.Option.{option_map_or}
use Rattle.irc_names.specs.Lemmas.PlainFacts.{is_some-map}
use Rattle.irc_burst_lines.specs.DeedLines.{squit_parts}
use Rattle.irc_server.specs.DeedTold.{losses}
use Rattle.irc_line.specs.Messages.{line_text}
use Rattle.irc_merge.specs.Deeds.{Deed}
use Rattle.irc_relay.specs.Distances.{IsAmong}
use Rattle.irc_relay.specs.Following.{all_done, all_seen}
use Rattle.irc_relay.specs.Lemmas.TellingNames.{same_unless}
use Rattle.irc_relay.specs.Links.{Name, Link, HasEnds, part, joined, linked, same, distance}
use Rattle.irc_relay.specs.Links.{AreLinked}
use Rattle.irc_relay.specs.Relay.{streams_from, from_near_end, lines_coming, lines_pending}
use Rattle.irc_relay.specs.Relay.{under_way}
use Rattle.irc_relay.specs.Lemmas.NextHops.{distance_self, linked_back, linked_joined}
use Rattle.irc_relay.specs.Lemmas.LinkTakenOut.{tests_tell}
use Rattle.irc_routes.specs.Known.{Known, names_behind}
use Rattle.irc_stage.specs.Lemmas.Numbers.{one_number, same_number, same_number-is}
use Rattle.irc_stage.specs.View.{View}
use Rattle.irc_server.specs.Owed.{lines_to}
use Rattle.irc_world.specs.Bounds.{most, part_size}
use Rattle.irc_world.specs.Bystanders.{OnlyConnectedReceive}
use Rattle.irc_world.specs.Stepping.{Stepped, cut, leaving_lines, parted, split_text}
use Rattle.irc_world.specs.World.{World}
use Rattle.irc_follow.specs.AtRest.{side_state_of, BehindIsThatSide}
use Rattle.irc_follow.specs.Fits.{Fits}
use Rattle.irc_follow.specs.SideState.{ItemSetting, is_home_of, number}
use Rattle.irc_follow.specs.Says.{lines_on, machine, play}
use Rattle.irc_follow.specs.Lemmas.SidesFollowed.{IsKnownOfLine}
use Rattle.irc_follow.specs.Lemmas.PlacesOfNames.{one_place}
use Rattle.irc_follow.specs.Lemmas.SaidEffectShown.{append_nil}
use Rattle.irc_network.specs.Laws.{RestStays}
use Rattle.irc_network.specs.Network.{Network, received_by}
use Rattle.irc_items.specs.GoodLines.{no_answers}
use Rattle.irc_items.specs.OneRoom.{at_rest_of}
use Rattle.irc_items.specs.Relayed.{is_met_with, relayed, way_at}
use Rattle.irc_items.specs.SetUp.{routes_in, settings_of, view_at}
use Rattle.irc_items.specs.Sound.{owed_now, world_now, is_met, IsPlaceOf, IsSound}
use Rattle.irc_items.proofs.Common.Begun.{begins, IsGoingOn}
use Rattle.irc_items.proofs.Common.Counting.{part_counted}
use Rattle.irc_items.proofs.Common.Ends.{AtEnd, is_end, is_none, both_ends, is_either, which_end}
use Rattle.irc_items.proofs.Common.FewLines.{none_at_source, none_pending}
use Rattle.irc_items.proofs.Common.Reading.{home_is, linked_met}
use Rattle.irc_items.proofs.Common.Sources.{Stands, at_end, behind, aside, few_from_two}
use Rattle.irc_items.proofs.Common.Sources.{AreFew}
use Rattle.irc_items.proofs.Common.Step.{item_sound, ComesTo}
use Rattle.irc_items.proofs.Cut.Begins.{deeds_at, deeds, away, from_end, next_to_end, sides_of}
use Rattle.irc_items.proofs.Cut.Begins.{squits_told, starts, taker_among, takes, AreSidesOfCut}
use Rattle.irc_items.proofs.Cut.Coming.{ComesToCut}
use Rattle.irc_items.proofs.Cut.Ends.{linked_same, side_linked}
use Rattle.irc_items.proofs.Cut.Given.{parted_at}
use Rattle.irc_items.proofs.Cut.Sides.{routes_after_cut}
use Rattle.irc_items.proofs.Cut.Step.{apart, covers, cut_setting, cut_off, ends_linked, fixed_here}
use Rattle.irc_items.proofs.Cut.Step.{forest, left_is, left_of, old_ends, right_here, source_at}
use Rattle.irc_items.proofs.Cut.Step.{stands, IsCutStep}
use Rattle.irc_items.proofs.Good.GoodLines.{well_follow}

pub record AreCutLaws : Type 0 where
  pub quiet : RestStays
  pub line : IsKnownOfLine
  pub only_connected : OnlyConnectedReceive
  pub behind : BehindIsThatSide

losses_long : (own far : Name) (names : List Name) → length (losses own far names) ≡ length names
losses_long own far [] = refl
losses_long own far (name ∷ names) = ap suc (losses_long own far names)

turned : (sum p q k j near far : ℕ) → sum ≤ (0 + (p - 1) * k) + (0 + (q - 1) * j) → near ≡ p
    → far ≡ q → sum ≤ k * (near - 1) + j * (far - 1)
turned sum p q k j near far most e f =
    by (p - 1) (q - 1) most (ap (λ n. n - 1) e) (ap (λ n. n - 1) f)
  where
    by : (a b : ℕ) → sum ≤ (0 + a * k) + (0 + b * j) → near - 1 ≡ a → far - 1 ≡ b
        → sum ≤ k * (near - 1) + j * (far - 1)
    by a b most e f = rw e (rw f (omega arith))

module _ {net new : Network} {near far : Name} (laws : AreCutLaws)
    (given : IsCutStep net new near far) (sides : AreSidesOfCut net new near far)
    (comes : ComesToCut (cut_setting net near far) (world_now net) (routes_in net)
    (left_of net near far) near far) where
  abbrev s : ItemSetting
  s = cut_setting net near far

  abbrev world : World
  world = world_now net

  abbrev left : List Link
  left = left_of net near far

  abbrev l : Link
  l = record { near = near; far = far }

  abbrev lost : Stepped
  lost = parted (settings_of net) world left near far

  abbrev source : Name → Name
  source = from_near_end left near far

  abbrev routes : Name → Known
  routes = routes_after_cut s world (routes_in net) left near far

  -- ---- what clients receive

  module _ (client : ℕ) where
    abbrev owed : List (List ℕ)
    owed = owed_now net client ++ lost.out client

    abbrev leaving : Name → Name → List (List ℕ)
    leaving a b = leaving_lines (settings_of net) left a b (world.hall a).room
        (get (world.hall a).clients client)

    none_at : (t e : Name) → is_home_of s.homes t client ≡ true → t ≢ e
        → is_home_of s.homes e client ≡ false
    none_at t e home two =
        ap (λ o. option_map_or (same e) o false) (home_is net.homes client t home)
        ∙ same_unless e t (λ f. two (sym f))

    received : (t : Name) → is_home_of s.homes t client ≡ true → received_by new client
        ≡ owed_now net client
        ++ ((if is_home_of s.homes near client then leaving near far else [])
        ++ (if is_home_of s.homes far client then leaving far near else []))
    received t home =
        given.cut_so.received client t (home_is net.homes client t home)
        ∙ ap (λ before. before ++ (lines_to client (parted_at net near far).out
        ++ lines_to client (parted_at net far near).out)) (given.step.one.received client)
        ∙ (λ i. owed_now net client ++ ((sides.end_parted near far (inl (refl, refl))).shown client
        i ++ (sides.end_parted far near (inr (refl, refl))).shown client i))

    near_other : near ≢ far
    near_other e = apart given (ap (part left) e)

    -- where somebody is at neither end
    elsewhere : (t : Name) → is_home_of s.homes t client ≡ true → t ≢ near → t ≢ far
        → received_by new client ≡ owed_now net client
    elsewhere t home m n =
        received t home
        ∙ (λ i. owed_now net client ++ ((if none_at t near home m i then leaving near far else [])
        ++ (if none_at t far home n i then leaving far near else [])))
        ∙ append_nil (owed_now net client)

    one_shown : (a b : Name) → HasEnds l a b → is_home_of s.homes a client ≡ true
        → (if is_home_of s.homes near client then leaving near far else [])
        ++ (if is_home_of s.homes far client then leaving far near else []) ≡ leaving a b
    one_shown = both_ends l (λ a b. is_home_of s.homes a client ≡ true
        → (if is_home_of s.homes near client then leaving near far else [])
        ++ (if is_home_of s.homes far client then leaving far near else []) ≡ leaving a b)
        (λ home. (λ i. (if home i then leaving near far else [])
        ++ (if none_at near far home near_other i then leaving far near else []))
        ∙ append_nil (leaving near far))
        (λ home i. (if none_at far near home (λ e. near_other (sym e)) i then leaving near far
        else []) ++ (if home i then leaving far near else []))

    told_source : (t : Name) → is_home_of s.homes t client ≡ true → s.streams.depth t ≡ 0
        → received_by new client ≡ owed
    told_source t home none = by (stands given t)
      where
        by : Stands (HasEnds l) left s.streams 0 t → received_by new client ≡ owed
        by (at_end b ends _) =
            received t home ∙ ap (λ more. owed_now net client ++ more)
            (one_shown t b ends home ∙ comes.home_seen t b ends client home)
        by (behind a b ends on two above below) = absurd (let no : ⊥ = omega arith in no)
        by (aside away _) =
            elsewhere t home (λ e. away near far (inl (refl, refl)) (ap (part left) e))
            (λ e. away far near (inr (refl, refl)) (ap (part left) e))
            ∙ sym (ap (λ more. owed_now net client ++ more) (comes.aside_seen client t away home)
            ∙ append_nil (owed_now net client))

    told_taker : (t : Name) → is_home_of s.homes t client ≡ true → 0 < s.streams.depth t
        → received_by new client ++ all_seen (play s client) t (sides_of laws.quiet given sides t)
        (deeds laws.quiet given sides t) ≡ owed
    told_taker t home below =
        let at = takes laws.quiet given sides t below in
        (λ i. elsewhere t home at.not_near at.not_far i
        ++ all_seen (play s client) t (sides_of laws.quiet given sides t)
        (deeds_at laws.quiet given sides t at.a at.b at.ends at.on i))
        ∙ ap (λ more. owed_now net client ++ more)
        (comes.seen at.a at.b at.ends client t
        (taker_among laws.quiet given sides t below) at.on home)

    -- ---- what servers come to

    at_source : (t : Name) → IsAmong net.names t → s.streams.depth t ≡ 0
        → Fits s t (side_state_of s lost.state routes t) (view_at new t)
    at_source t among none = by (stands given t)
      where
        by : Stands (HasEnds l) left s.streams 0 t
            → Fits s t (side_state_of s lost.state routes t) (view_at new t)
        by (at_end b ends _) = sides.end_fits t b ends
        by (behind a b ends on two above below) = absurd (let no : ⊥ = omega arith in no)
        by (aside away _) =
            comes.others (streams_from net.links (λ server. server)) t (view_at new t) among away
            (subst (Fits (record s { streams = streams_from net.links (λ server. server) }) t
            (side_state_of s world (routes_in net) t))
            (sym (given.cut_so.other_views t (λ e. away near far (inl (refl, refl)) (ap
            (part left) e)) (λ e. away far near (inr (refl, refl)) (ap (part left) e))))
            (given.step.one.servers t among))

    comes_so : (t : Name) (view : View) → IsAmong net.names t → 0 < s.streams.depth t
        → Fits s t (all_done (play s client) (sides_of laws.quiet given sides t)
        (deeds laws.quiet given sides t)) view → Fits s t (side_state_of s lost.state routes t) view
    comes_so t view among below fits =
        let at = takes laws.quiet given sides t below in
        comes.comes at.a at.b at.ends client t view among at.on at.other
        (subst (λ deeds.
        Fits s t (all_done (play s client) (sides_of laws.quiet given sides t) deeds) view)
        (deeds_at laws.quiet given sides t at.a at.b at.ends at.on) fits)

    goes_on : IsGoingOn s no_answers lost.state source routes new client owed
        (sides_of laws.quiet given sides) (deeds laws.quiet given sides)
    goes_on = record {
      forest = forest given;
      covers = covers given;
      streams = refl;
      follow = well_follow laws.line s client (fixed_here given) no_answers lost.state routes;
      begun = record {
        starts = starts laws.quiet given sides client;
        away = away laws.quiet given sides client;
        at_source = at_source;
        comes_to = comes_so;
        told_source = told_source;
        told = told_taker;
      };
    }

    -- ---- few lines

    -- how many servers a's side loses
    lost_behind : (a b : Name) → HasEnds l a b
        → length (names_behind (routes_in net a) (number s b)) ≡ part_size (settings_of net) left b
    lost_behind a b ends =
        ap length (laws.behind s world.links (routes_in net) a b
        (fixed_here given) given.step.holds.sound.forest (old_ends given) (right_here given)
        (ends_linked given a b ends))
        ∙ ap (λ links. part_size (settings_of net) links b) (left_is given a b ends)

    if_few : (c : Bool) (told : List (List ℕ)) (n : ℕ) → length told ≡ n
        → length (if c then told else []) ≤ n
    if_few true told n e = omega arith
    if_few false told n e = omega arith

    few : AreFew (HasEnds l) left s new client (deeds laws.quiet given sides) (λ a b. 0)
        (λ a b. part_size (settings_of net) left b)
    few = record {
      at_end = λ a b ends. le_of_eq (ap (λ (lines : List (List ℕ)). length lines)
          (none_at_source goes_on a (ap (distance left a) (source_at given a a b ends refl)
          ∙ distance_self left a)));
      next = λ t a b ends on two one.
          subst (λ lines. length lines ≤ part_size (settings_of net) left b)
          (sym (ap (λ p. under_way (relayed s new client) p t)
          (next_to_end laws.quiet given sides t a b ends on one).0
          ∙ from_end laws.quiet given sides a b ends client t))
          (if_few (linked left a t) (squits_told s (routes_in net) a b)
          (part_size (settings_of net) left b)
          (length-map (names_behind (routes_in net a) (number s b))
          (λ x. line_text (squit_parts a x (split_text a b))) ∙ lost_behind a b ends));
      told = λ t a b ends on. le_of_eq
          (ap (λ (deeds : List Deed). length deeds) (deeds_at laws.quiet given sides t a b ends on)
          ∙ losses_long a b (names_behind (routes_in net a) (number s b)) ∙ lost_behind a b ends);
    }

    few_come : lines_coming (machine s client) s.streams (relayed s new client) net.names
        ≤ most (settings_of net) world (cut near far)
    unfolding most
    few_come =
        turned (lines_coming (machine s client) s.streams (relayed s new client) net.names)
        (count_by (joined left near) net.names)
        (count_by (joined left far) net.names) (part_size (settings_of net) left far)
        (part_size (settings_of net) left near)
        (part_size (settings_of net) left near) (part_size (settings_of net) left far)
        (few_from_two goes_on (stands given) few net.names near far (inl (refl, refl))
        (inr (refl, refl)) (is_either l)
        (given.step.sound.set_up.once near given.parting.near_among)
        (given.step.sound.set_up.once far given.parting.far_among))
        (part_counted net given.step.sound.set_up left near)
        (part_counted net given.step.sound.set_up left far)

    pending : lines_pending (machine s client) s.streams
        (relayed s new client) net.names no_answers.answered no_answers.one no_answers.other
        ≤ most (settings_of net) world (cut near far)
    pending =
        let once = none_pending (machine s client) s.streams (relayed s new client) net.names in
        let here = few_come in
        omega arith

  -- ---- who is linked still

  still_among : (x y : Name) → AreLinked left x y → IsAmong net.names x
  still_among x y linked_so =
      old_ends given x y ((cut_off given near far (inl (refl, refl))).before x y linked_so)

  met_still : (x y : Name) → AreLinked left x y → is_met_with s (view_at new y) x ≡ true
  met_still x y linked_so = by (which_end l y)
    where
      back : AreLinked left y x
      back = linked_back left x y linked_so

      by : AtEnd l y → is_met_with s (view_at new y) x ≡ true
      by (is_end b ends) = linked_met s lost.state routes y x (view_at new y)
          (sides.end_fits y b ends) (still_among x y linked_so) back
      by (is_none m n) =
          ap (λ view. is_met_with s view x) (given.cut_so.other_views y m n)
          ∙ linked_met (at_rest_of net) world (routes_in net) y x (view_at net y)
          (given.step.one.servers y (still_among y x back)) (still_among x y linked_so)
          ((cut_off given near far (inl (refl, refl))).before y x back)

  -- ---- ways

  other_number : (k m : ℕ) → same_number k m ≡ false → k ≢ m
  other_number k m two e = let no = sym (same_number-is k m e) ∙ two in cc no

  -- at an end a way goes on as it did, but for the one to the other end
  way_on : (a b : Name) → HasEnds l a b → (place : ℕ) → place ≢ number s b
      → is_some (way_at new a place) ≡ is_some (way_at net a place)
  way_on a b ends place two =
      ap is_some (given.cut_so.way a b ends place two) ∙ is_some-map
      (λ lines. lines ++ lines_on place (parted_at net a b).out) (way_at net a place)

  still_there : (x y : Name) → is_some (way_at net x (number s y)) ≡ linked world.links x y
  still_there x y =
      given.step.sound.ways x y ∙ ap (λ links. linked links x y) given.step.sound.links

  way_of_end : (a b : Name) → HasEnds l a b → (y : Name)
      → is_some (way_at new a (number s y)) ≡ linked left a y
  way_of_end a b ends y = by (same_number (number s y) (number s b)) refl (linked left a y) refl
    where
      none_to_b : AreLinked left a y → number s y ≡ number s b → ⊥
      none_to_b linked_so e =
          (cut_off given a b ends).apart (sym (linked_joined left a b (subst (AreLinked left a)
          (one_place net.names y b (still_among y a (linked_back left a y linked_so)) e)
          linked_so)))

      by : (c : Bool) → same_number (number s y) (number s b) ≡ c → (d : Bool) → linked left a y ≡ d
          → is_some (way_at new a (number s y)) ≡ d
      by true e true is = absurd
          (none_to_b ((tests_tell left a y y).2.0 is) (one_number (number s y) (number s b) e))
      by true e false is =
          ap (λ place. is_some (way_at new a place)) (one_number (number s y) (number s b) e)
          ∙ ap is_some (given.cut_so.closed a b ends)
      by false e d is =
          way_on a b ends (number s y) (other_number (number s y) (number s b) e)
          ∙ still_there a y
          ∙ side_linked world.links left a b (cut_off given a b ends) a y refl
          (λ _ to. other_number (number s y) (number s b) e (ap (number s) to))
          ∙ is

  ways_now : (x y : Name) → is_some (way_at new x (number s y)) ≡ linked left x y
  ways_now x y = by (which_end l x)
    where
      by : AtEnd l x → is_some (way_at new x (number s y)) ≡ linked left x y
      by (is_end b ends) = way_of_end x b ends y
      by (is_none m n) =
          ap is_some (given.cut_so.other_ways x (number s y) m n) ∙ still_there x y
          ∙ linked_same world.links left near far (cut_off given near far (inl (refl, refl))) x y
          (λ from _. m from) (λ from _. n from)

  to_servers : (x : Name) (place : ℕ) → is_some (way_at new x place) ≡ true → IsPlaceOf net place
  to_servers x place is = given.step.sound.to_servers x place (by (which_end l x))
    where
      at : (b : Name) → HasEnds l x b → (c : Bool) → same_number place (number s b) ≡ c
          → is_some (way_at net x place) ≡ true
      at b ends true e =
          let no = sym (ap (λ k. is_some (way_at new x k)) (one_number place (number s b) e)
          ∙ ap is_some (given.cut_so.closed x b ends)) ∙ is in cc no
      at b ends false e = sym (way_on x b ends place (other_number place (number s b) e)) ∙ is

      by : AtEnd l x → is_some (way_at net x place) ≡ true
      by (is_end b ends) = at b ends (same_number place (number s b)) refl
      by (is_none m n) = sym (ap is_some (given.cut_so.other_ways x place m n)) ∙ is

  -- ---- where that brings the network

  comes_to : ComesTo net new (cut near far) net.homes lost source routes no_answers
  comes_to = record {
    covers = covers given;
    right = comes.right;
    called = λ x y linked_so. inl (is_met (met_still x y linked_so));
    under_way = λ client. begins (goes_on client);
    few = pending;
    ways = ways_now;
    to_servers = to_servers;
  }

  pub cut_sound : IsSound new
  cut_sound = item_sound laws.only_connected given.step comes_to
