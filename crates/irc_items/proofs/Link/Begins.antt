-- A link is made, and its two sides begin to tell each other of themselves.
use Rattle.std.proofs.Common.{◌≡◌, ℕ, ◌<◌, Bool, true, false, List, [], ◌∷◌, refl, sym, subst, ◌∙◌}
use Rattle.std.proofs.Common.{arith, if◌then◌else◌}
use Rattle.irc_merge.specs.Deeds.{Deed}
use Rattle.irc_relay.specs.Distances.{IsAmong}
use Rattle.irc_relay.specs.Following.{Starts, Tells, Terms}
use Rattle.irc_relay.specs.Links.{Name, Link, part, has_ends, AreJoined, HasEnds, same}
use Rattle.irc_relay.specs.Relay.{under_way, GoesAway, TakesFrom}
use Rattle.irc_stage.specs.View.{View}
use Rattle.irc_world.specs.Stepping.{link_made}
use Rattle.irc_world.specs.World.{World}
use Rattle.irc_follow.specs.SideState.{ItemSetting, SideState}
use Rattle.irc_follow.specs.Relinked.{SideAfterLink}
use Rattle.irc_follow.specs.Says.{machine, play}
use Rattle.irc_follow.specs.Lemmas.SideAtRest.{joined_among}
use Rattle.irc_network.specs.Laws.{RestStays}
use Rattle.irc_network.specs.Network.{Network}
use Rattle.irc_items.specs.Relayed.{relayed}
use Rattle.irc_items.specs.SetUp.{routes_in, view_at}
use Rattle.irc_items.specs.Sound.{world_now}
use Rattle.irc_items.proofs.Burst.Collisions.{answers_of}
use Rattle.irc_items.proofs.Good.GoodLines.{good_terms}
use Rattle.irc_items.proofs.Common.Ends.{chosen, chosen_at, other_end}
use Rattle.irc_items.proofs.Common.Sources.{Stands, at_end, behind, aside, source_of, starts_from}
use Rattle.irc_items.proofs.Common.Sources.{one_moment}
use Rattle.irc_items.proofs.Link.Step.{apart, end_among, fits_begun, from_other, has_ends_so}
use Rattle.irc_items.proofs.Link.Step.{link_setting, not_ends, old_ends, stands, IsLinkStep}
use Rattle.irc_items.proofs.Link.Sides.{deeds_of_link, routes_after, side_of}
use Rattle.irc_items.proofs.Link.Ways.{link_lines, nothing_else, to_end}

-- how the servers' lines are about their sides, while a link is made
abbrev pub terms_of_link : Network → Name → Name → Terms View (List ℕ) SideState Deed
terms_of_link net near far =
    good_terms (link_setting net near far) (answers_of (record { near = near; far = far }))
    (link_made (world_now net) near far).state
    (routes_after (link_setting net near far) (record { near = near; far = far }) (world_now net)
    (routes_in net))

-- what the two ends tell each other, and where that brings the sides
abbrev pub IsToldByLink : {net new : Network} {near far : Name} → SideAfterLink → RestStays
    → IsLinkStep net new near far → Type 0
IsToldByLink {net} {new} {near} {far} after_link quiet given = (t b : Name)
    → HasEnds (record { near = near; far = far }) t b → (client : ℕ)
    → Tells (machine (link_setting net near far) client) (play (link_setting net near far) client)
    (terms_of_link net near far) b t
    (side_of (link_setting net near far) (record { near = near; far = far }) (world_now net)
    (routes_in net) t) (view_at new t)
    (deeds_of_link (link_setting net near far) (world_now net) (routes_in net) t b)
    (link_lines after_link quiet given b t)

module _ {net new : Network} {near far : Name} (after_link : SideAfterLink) (quiet : RestStays)
    (given : IsLinkStep net new near far)
    (tells : IsToldByLink after_link quiet given) (client : ℕ) where
  abbrev s : ItemSetting
  s = link_setting net near far

  abbrev world : World
  world = world_now net

  abbrev l : Link
  l = record { near = near; far = far }

  -- the deeds by which a server comes to know the other side
  abbrev pub deeds : Name → List Deed
  deeds t = chosen l world.links (λ a b. deeds_of_link s world (routes_in net) a b) [] t

  pub deeds_at : (t a b : Name) → HasEnds l a b → AreJoined world.links t a
      → deeds t ≡ deeds_of_link s world (routes_in net) a b
  deeds_at t a b ends on = chosen_at l world.links (apart given)
      (λ a b. deeds_of_link s world (routes_in net) a b) [] t a b ends on

  one_side : (t p : Name) → AreJoined world.links t p
      → side_of s l world (routes_in net) t ≡ side_of s l world (routes_in net) p
  one_side t p together =
      one_moment world.links world.links (l ∷ world.links) (routes_in net) world.hall t p together
      together (given.step.holds.sound.one_hall t p together)

  one_list : (t p : Name) → AreJoined world.links t p → deeds t ≡ deeds p
  one_list t p together = λ i. if same (together i) (part world.links near)
      then deeds_of_link s world (routes_in net) near far
      else (if same (together i) (part world.links far)
      then deeds_of_link s world (routes_in net) far near else [])

  abbrev IsTold : Name → Name → List Deed → List (List ℕ) → Type 0
  IsTold p t deed_list lines =
      Tells (machine s client) (play s client) (terms_of_link net near far) p t
      (side_of s l world (routes_in net) t) (view_at new t) deed_list lines

  abbrev IsToldFirst : Name → Type 0
  IsToldFirst t = IsTold (s.streams.parent t) t (deeds t)
      (under_way (relayed s new client) (s.streams.parent t) t)

  told_at : (t b : Name) → HasEnds l t b → IsToldFirst t
  told_at t b ends =
      subst (λ p. IsTold p t (deeds t) (under_way (relayed s new client) p t))
      (sym (from_other given t b ends).0)
      (subst (λ deed_list. IsTold b t deed_list (under_way (relayed s new client) b t))
      (sym (deeds_at t t b ends refl))
      (subst (IsTold b t (deeds_of_link s world (routes_in net) t b))
      (sym (to_end after_link quiet given client t b ends)) (tells t b ends client)))

  first : (t : Name) → s.streams.depth t ≡ 1 → IsToldFirst t
  first t one = by (stands given t)
    where
      by : Stands (HasEnds l) world.links s.streams 1 t → IsToldFirst t
      by (at_end b ends _) = told_at t b ends
      by (behind a b ends on two above deep) = absurd (let no : ⊥ = omega arith in no)
      by (aside _ none) = absurd (let no : ⊥ = omega arith in no)

  -- nobody takes lines over the new link but its ends
  not_across : (t : Name) → 1 < s.streams.depth t → HasEnds l (s.streams.parent t) t → ⊥
  not_across t deep ends =
      let one =
      (from_other given t (s.streams.parent t) (other_end l (s.streams.parent t) t ends)).1 in
      let no : ⊥ = omega arith in
      no

  -- whoever takes lines is there
  pub taker_among : (t : Name) → 0 < s.streams.depth t → IsAmong net.names t
  taker_among t below =
      let at = source_of (stands given t) below in
      joined_among net.names world.links t at.e given.step.holds.sound.forest (old_ends given)
      (end_among given at.e at.o at.ends) at.on

  pub starts : Starts (machine s client) (play s client) (terms_of_link net near far) s.streams
      (relayed s new client) (side_of s l world (routes_in net)) deeds
  starts = starts_from (answers_of l) (link_made world near far).state
      (routes_after s l world (routes_in net)) new client (stands given) (omega arith)
      (record { one_side = one_side; one_list = one_list })
      (λ t below. fits_begun given after_link t (taker_among t below)) first
      (λ t above deep. nothing_else after_link quiet given client (s.streams.parent t) t
      (not_across t deep))

  pub away : GoesAway s.streams (relayed s new client)
  away x y line lines is = by (has_ends l x y) refl
    where
      by : (b : Bool) → has_ends l x y ≡ b → TakesFrom s.streams y x
      by true e =
          let from = from_other given y x (other_end l x y (has_ends_so given x y e)) in
          record { parent = from.0; below = let one = from.1 in omega arith }
      by false e = absurd (let no = sym
          (nothing_else after_link quiet given client x y (not_ends given x y e)) ∙ is in cc no)
