-- A link is lost, and each end's side begins to follow it.
use Rattle.std.proofs.Common.{◌≡◌, ◌≢◌, ℕ, ◌<◌, Bool, true, false, Option, Some, None, is_some}
use Rattle.std.proofs.Common.{List, [], ◌++◌, map, refl, sym, ap, subst, ◌∙◌, arith, inl, inr}
use Rattle.std.proofs.Common.{unwrap_or, if◌then◌else◌, ◌∷◌}
use Rattle.std.specs.List.{list_any}
use Rattle.std.specs.Option.{option_map}
use Rattle.irc_burst_lines.specs.DeedLines.{squit_parts}
use Rattle.irc_line.specs.Messages.{line_text}
use Rattle.irc_merge.specs.Deeds.{Deed}
use Rattle.irc_relay.specs.Distances.{IsAmong}
use Rattle.irc_relay.specs.Following.{Starts, Tells, Terms}
use Rattle.irc_relay.specs.Links.{Name, Link, part, linked, same, toward, distance, AreJoined}
use Rattle.irc_relay.specs.Links.{AreLinked, HasEnds}
use Rattle.irc_relay.specs.Relay.{under_way, GoesAway, TakesFrom, from_near_end}
use Rattle.irc_relay.specs.Lemmas.StreamsFlow.{source_is_one, from_source_goes_away}
use Rattle.irc_relay.specs.Lemmas.NextHops.{linked_back, linked_joined}
use Rattle.irc_relay.specs.Lemmas.LinkTakenOut.{tests_tell}
use Rattle.irc_routes.specs.Known.{Known, names_behind}
use Rattle.irc_stage.specs.Lemmas.Numbers.{one_number, same_number, same_number-is}
use Rattle.irc_stage.specs.View.{View}
use Rattle.irc_world.specs.Stepping.{parted, split_text}
use Rattle.irc_world.specs.World.{World}
use Rattle.irc_follow.specs.AtRest.{side_state_of}
use Rattle.irc_follow.specs.Fits.{Fits}
use Rattle.irc_follow.specs.SideState.{ItemSetting, SideState, number}
use Rattle.irc_follow.specs.Says.{lines_on, machine, play}
use Rattle.irc_follow.specs.Tree.{index_in}
use Rattle.irc_follow.specs.Lemmas.SideAtRest.{joined_among}
use Rattle.irc_follow.specs.Lemmas.PlacesOfNames.{one_place}
use Rattle.irc_follow.specs.Lemmas.SaidEffectShown.{append_nil}
use Rattle.irc_network.specs.Laws.{RestStays}
use Rattle.irc_network.specs.Network.{Network}
use Rattle.irc_items.specs.GoodLines.{no_answers}
use Rattle.irc_items.specs.OneRoom.{at_rest_of}
use Rattle.irc_items.specs.Relayed.{owed_to, relayed, way_at, way_between}
use Rattle.irc_items.specs.SetUp.{no_view, routes_in, settings_of, view_at}
use Rattle.irc_items.specs.Sound.{world_now}
use Rattle.irc_items.proofs.Common.Reading.{owed_by_none, put_behind}
use Rattle.irc_items.proofs.Cut.Given.{parted_at}
use Rattle.irc_items.proofs.Cut.Home.{IsParted}
use Rattle.irc_items.proofs.Cut.Sides.{cut_side, deeds_of_cut, routes_after_cut}
use Rattle.irc_items.proofs.Cut.Step.{apart, cut_setting, cut_off, end_among, forest, left_of}
use Rattle.irc_items.proofs.Cut.Step.{old_ends, source_at, stands, IsCutStep}
use Rattle.irc_items.proofs.Good.GoodLines.{good_terms}
use Rattle.irc_items.proofs.Common.Ends.{AtEnd, is_end, is_none, chosen, chosen_at, one_end}
use Rattle.irc_items.proofs.Common.Ends.{which_end}
use Rattle.irc_items.proofs.Common.Sources.{Stands, at_end, behind, aside, starts_from, one_moment}
use Rattle.irc_items.proofs.Common.Rest.{nothing_owed, quiet_ways}
use Rattle.irc_items.specs.Lemmas.SetUpFacts.{viewed_nowhere}
use Rattle.irc_items.proofs.Common.SourceFacts.{next_to}

-- the lines by which an end tells its neighbours of what it has lost
abbrev pub squits_told : ItemSetting → (Name → Known) → Name → Name → List (List ℕ)
squits_told s routes a b =
    map (λ x. line_text (squit_parts a x (split_text a b))) (names_behind (routes a) (number s b))

-- no line of a cut is answered
abbrev pub terms_of_cut : Network → Name → Name → Terms View (List ℕ) SideState Deed
terms_of_cut net near far =
    good_terms (cut_setting net near far) no_answers
    (parted (settings_of net) (world_now net) (left_of net near far) near far).state
    (routes_after_cut (cut_setting net near far) (world_now net) (routes_in net)
    (left_of net near far) near far)

-- what is known of each end, of who is told by it, and of where that brings the sides
pub record AreSidesOfCut (net new : Network) (near far : Name) : Type 0 where
  pub end_parted : (a b : Name) → HasEnds (record { near = near; far = far }) a b → IsParted
      (cut_setting net near far) (world_now net) (routes_in net) (left_of net near far) a b
      (view_at net a) (parted_at net a b)
  pub end_fits : (a b : Name) → HasEnds (record { near = near; far = far }) a b
      → Fits (cut_setting net near far) a (side_state_of (cut_setting net near far)
      (parted (settings_of net) (world_now net) (left_of net near far) near far).state
      (routes_after_cut (cut_setting net near far) (world_now net) (routes_in net)
      (left_of net near far) near far) a) (view_at new a)
  pub side_fits : (a b t : Name) → HasEnds (record { near = near; far = far }) a b → AreJoined
      (left_of net near far) t a → t ≢ near → t ≢ far → Fits (cut_setting net near far) t
      (cut_side (world_now net) (routes_in net) (left_of net near far) t) (view_at new t)
  pub told : (a b : Name) → HasEnds (record { near = near; far = far }) a b
      → (client : ℕ) (t : Name) → TakesFrom (cut_setting net near far).streams t a
      → AreJoined (left_of net near far) t a → Fits (cut_setting net near far) t
      (cut_side (world_now net) (routes_in net) (left_of net near far) t) (view_at new t)
      → Tells (machine (cut_setting net near far) client) (play (cut_setting net near far) client)
      (terms_of_cut net near far) a t
      (cut_side (world_now net) (routes_in net) (left_of net near far) t) (view_at new t)
      (deeds_of_cut (cut_setting net near far) (routes_in net) a b)
      (squits_told (cut_setting net near far) (routes_in net) a b)

module _ {net new : Network} {near far : Name} (quiet : RestStays)
    (given : IsCutStep net new near far) (sides : AreSidesOfCut net new near far) where
  abbrev s : ItemSetting
  s = cut_setting net near far

  abbrev world : World
  world = world_now net

  abbrev left : List Link
  left = left_of net near far

  abbrev l : Link
  l = record { near = near; far = far }

  abbrev routes : Name → Known
  routes = routes_in net

  abbrev after : World
  after = (parted (settings_of net) world left near far).state

  abbrev routes_now : Name → Known
  routes_now = routes_after_cut s world routes left near far

  -- ---- what is under way

  same_place : (y : Name) → index_in new.names y ≡ number s y
  same_place y = ap (λ names. index_in names y) given.step.taken.names

  still_there : (x y : Name) → is_some (way_between net x y) ≡ linked world.links x y
  still_there x y =
      given.step.sound.ways x y ∙ ap (λ links. linked links x y) given.step.sound.links

  owes_nobody_elsewhere : (x y : Name) → x ≢ near → x ≢ far → owed_to s (view_at new x) y ≡ []
  owes_nobody_elsewhere x y m n = ap (λ view. owed_to s view y) (given.cut_so.other_views x m n)
      ∙ by (list_any (same x) net.names) refl
    where
      by : (c : Bool) → list_any (same x) net.names ≡ c → owed_to s (view_at net x) y ≡ []
      by true e = nothing_owed (at_rest_of net) world routes x (view_at net x)
          (given.step.one.servers x e) y
      by false e =
          ap (λ o. owed_to s (unwrap_or o no_view) y) (viewed_nowhere net x e) ∙ owed_by_none s y

  queued_elsewhere : (x y : Name) → x ≢ near → x ≢ far → unwrap_or (way_between new x y) [] ≡ []
  queued_elsewhere x y m n =
      ap (λ o. unwrap_or o []) (given.cut_so.other_ways x (index_in new.names y) m n)
      ∙ quiet_ways quiet net given.step.rest x (index_in new.names y)

  under_way_elsewhere : (client : ℕ) (x y : Name) → x ≢ near → x ≢ far
      → under_way (relayed s new client) x y ≡ []
  under_way_elsewhere client x y m n = ap (λ lines. lines ++ owed_to s (view_at new x) y)
      (queued_elsewhere x y m n) ∙ owes_nobody_elsewhere x y m n

  -- ---- one end a, which is not linked to the other, b, any more

  module _ (a b : Name) (ends : HasEnds l a b) where
    queued : (y : Name) → unwrap_or (way_between new a y) []
        ≡ (if linked left a y then squits_told s routes a b else [])
    queued y = ap (λ place. unwrap_or (way_at new a place) []) (same_place y)
        ∙ by (same_number (number s y) (number s b)) refl (linked left a y) refl
      where
        to_b : number s y ≡ number s b → AreLinked left a y → ⊥
        to_b e near_y =
            let y_among : IsAmong net.names y = old_ends given y a
            (linked_back world.links a y ((cut_off given a b ends).before a y near_y)) in
            (cut_off given a b ends).apart (sym (linked_joined left a b
            (subst (AreLinked left a) (one_place net.names y b y_among e) near_y)))

        nothing_more : (o : Option (List (List ℕ)))
            → unwrap_or (option_map (λ before. before ++ []) o) [] ≡ unwrap_or o []
        nothing_more None = refl
        nothing_more (Some lines) = append_nil lines

        other_way : same_number (number s y) (number s b) ≡ false → way_at new a (number s y)
            ≡ option_map (λ lines. lines ++ lines_on (number s y) (parted_at net a b).out)
            (way_at net a (number s y))
        other_way e =
            given.cut_so.way a b ends (number s y) (λ same_one.
            let no = sym (same_number-is (number s y) (number s b) same_one) ∙ e in cc no)

        by : (c : Bool) → same_number (number s y) (number s b) ≡ c → (d : Bool)
            → linked left a y ≡ d → unwrap_or (way_at new a (number s y)) []
            ≡ (if d then squits_told s routes a b else [])
        by true e true is =
            absurd (to_b (one_number (number s y) (number s b) e) ((tests_tell left a y y).2.0 is))
        by true e false is =
            ap (λ place. unwrap_or (way_at new a place) []) (one_number (number s y) (number s b) e)
            ∙ ap (λ o. unwrap_or o []) (given.cut_so.closed a b ends)
        by false e true is =
            let near_y : AreLinked left a y = (tests_tell left a y y).2.0 is in
            ap (λ o. unwrap_or o []) (other_way e)
            ∙ put_behind (way_at net a (number s y)) (lines_on (number s y) (parted_at net a b).out)
            (still_there a y
            ∙ (tests_tell world.links a y y).2.1 ((cut_off given a b ends).before a y near_y))
            (quiet_ways quiet net given.step.rest a (number s y))
            ∙ (sides.end_parted a b ends).told y near_y
        by false e false is =
            ap (λ o. unwrap_or o []) (other_way e)
            ∙ ap (λ more.
            unwrap_or (option_map (λ before. before ++ more) (way_at net a (number s y))) [])
            ((sides.end_parted a b ends).untold y (λ k. let no = sym ((tests_tell left a y y).2.1 k)
            ∙ is in cc no))
            ∙ nothing_more (way_at net a (number s y))
            ∙ quiet_ways quiet net given.step.rest a (number s y)

    pub from_end : (client : ℕ) (y : Name) → under_way (relayed s new client) a y
        ≡ (if linked left a y then squits_told s routes a b else [])
    from_end client y =
        ap (λ lines. lines ++ owed_to s (view_at new a) y) (queued y)
        ∙ ap (λ lines. (if linked left a y then squits_told s routes a b else []) ++ lines)
        (nothing_owed s after routes_now a (view_at new a) (sides.end_fits a b ends) y)
        ∙ append_nil (if linked left a y then squits_told s routes a b else [])

  -- ---- the two sides

  abbrev pub sides_of : Name → SideState
  sides_of t = cut_side world routes left t

  abbrev pub deeds : Name → List Deed
  deeds t = chosen l left (λ a b. deeds_of_cut s routes a b) [] t

  pub deeds_at : (t a b : Name) → HasEnds l a b → AreJoined left t a
      → deeds t ≡ deeds_of_cut s routes a b
  deeds_at t a b ends on =
      chosen_at l left (apart given) (λ a b. deeds_of_cut s routes a b) [] t a b ends on

  one_side : (t p : Name) → AreJoined left t p → sides_of t ≡ sides_of p
  one_side t p together = one_moment left world.links world.links routes world.hall t p together
      before (given.step.holds.sound.one_hall t p before)
    where
      before : AreJoined world.links t p
      before = ((cut_off given near far (inl (refl, refl))).kept t p together).joined

  one_list : (t p : Name) → AreJoined left t p → deeds t ≡ deeds p
  one_list t p together =
      λ i. if same (together i) (part left near) then deeds_of_cut s routes near far
      else (if same (together i) (part left far) then deeds_of_cut s routes far near else [])

  -- whoever takes lines is on the side of an end, and none itself
  pub record Takes (t : Name) : Type 0 where
    pub a : Name
    pub b : Name
    pub ends : HasEnds l a b
    pub on : AreJoined left t a
    pub other : t ≢ a
    pub not_near : t ≢ near
    pub not_far : t ≢ far

  pub takes : (t : Name) → 0 < s.streams.depth t → Takes t
  takes t below = by (stands given t)
    where
      by : Stands (HasEnds l) left s.streams 0 t → Takes t
      by (at_end b ends none) = absurd (let no : ⊥ = omega arith in no)
      by (behind a b ends on two above _) = record {
        a = a;
        b = b;
        ends = ends;
        on = on;
        other = two;
        not_near = λ e. two (no_end near far (inl (refl, refl)) e);
        not_far = λ e. two (no_end far near (inr (refl, refl)) e);
      }
        where
          no_end : (v u : Name) → HasEnds l v u → t ≡ v → t ≡ a
          no_end v u its e =
              e ∙ one_end l left (apart given) v u a b its ends (ap (part left) (sym e) ∙ on)
      by (aside _ none) = absurd (let no : ⊥ = omega arith in no)

  pub taker_among : (t : Name) → 0 < s.streams.depth t → IsAmong net.names t
  taker_among t below =
      let at = takes t below in
      joined_among net.names world.links t at.a given.step.holds.sound.forest (old_ends given)
      (end_among given at.a at.b at.ends)
      ((cut_off given at.a at.b at.ends).kept t at.a at.on).joined

  fits_taker : (t : Name) → 0 < s.streams.depth t → Fits s t (sides_of t) (view_at new t)
  fits_taker t below =
      let at = takes t below in sides.side_fits at.a at.b t at.ends at.on at.not_near at.not_far

  -- ---- next to an end

  pub next_to_end : (t a b : Name) → HasEnds l a b → AreJoined left t a → s.streams.depth t ≡ 1
      → (s.streams.parent t ≡ a) × AreLinked left a t
  next_to_end t a b ends on one =
      let source = source_at given t a b ends on in
      let is = next_to left (forest given) a t
      (ap (distance left t) (source_is_one left a t on ∙ sym source) ∙ one) in
      (ap (toward left t) (source ∙ sym (source_is_one left a t on)) ∙ is.parent, is.linked_to)

  module _ (client : ℕ) where
    abbrev IsToldFrom : Name → Name → List Deed → List (List ℕ) → Type 0
    IsToldFrom p t deed_list lines = Tells (machine s client) (play s client)
        (terms_of_cut net near far) p t (sides_of t) (view_at new t) deed_list lines

    first_at : (t : Name) → Takes t → s.streams.depth t ≡ 1 → IsToldFrom (s.streams.parent t) t
        (deeds t) (under_way (relayed s new client) (s.streams.parent t) t)
    first_at t at one =
        let is = next_to_end t at.a at.b at.ends at.on one in
        subst (λ p. IsToldFrom p t (deeds t) (under_way (relayed s new client) p t)) (sym is.0)
        (subst (λ deed_list. IsToldFrom at.a t deed_list (under_way (relayed s new client) at.a t))
        (sym (deeds_at t at.a at.b at.ends at.on))
        (subst (IsToldFrom at.a t (deeds_of_cut s routes at.a at.b))
        (sym (from_end at.a at.b at.ends client t ∙ ap (λ c. if c then squits_told s routes at.a
        at.b else []) ((tests_tell left at.a t t).2.1 is.1)))
        (sides.told at.a at.b at.ends client t (record { parent = is.0; below = omega arith }) at.on
        (fits_taker t (omega arith)))))

    pub starts : Starts (machine s client) (play s client) (terms_of_cut net near far) s.streams
        (relayed s new client) sides_of deeds
    starts = starts_from no_answers after routes_now new client (stands given) (omega arith)
        (record { one_side = one_side; one_list = one_list }) fits_taker
        (λ t one. first_at t (takes t (omega arith)) one)
        (λ t above deep. let at = takes (s.streams.parent t) above in
        under_way_elsewhere client (s.streams.parent t) t at.not_near at.not_far)

    pub away : GoesAway s.streams (relayed s new client)
    away = from_source_goes_away left (from_near_end left near far) (relayed s new client)
        (forest given) (λ x y line lines is. by x y line lines is (which_end l x))
      where
        at : (x y : Name) (line : List ℕ) (lines : List (List ℕ)) → under_way
            (relayed s new client) x y ≡ line ∷ lines → (b : Name) → HasEnds l x b → (c : Bool)
            → linked left x y ≡ c → AreLinked left x y × (from_near_end left near far y ≡ x)
        at x y line lines is b ends true is_linked =
            let to_y : AreLinked left x y = (tests_tell left x y y).2.0 is_linked in
            (to_y, source_at given y x b ends (sym (linked_joined left x y to_y)))
        at x y line lines is b ends false none =
            absurd (let no = sym (ap (λ c. if c then squits_told s routes x b else []) none)
            ∙ sym (from_end x b ends client y) ∙ is in cc no)

        by : (x y : Name) (line : List ℕ) (lines : List (List ℕ))
            → under_way (relayed s new client) x y ≡ line ∷ lines → AtEnd l x
            → AreLinked left x y × (from_near_end left near far y ≡ x)
        by x y line lines is (is_end b ends) = at x y line lines is b ends (linked left x y) refl
        by x y line lines is (is_none m n) =
            absurd (let no = sym (under_way_elsewhere client x y m n) ∙ is in cc no)
