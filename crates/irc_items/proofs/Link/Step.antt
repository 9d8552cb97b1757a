-- The two sides of a new link, just after both ends were opened.
use Rattle.std.proofs.Common.{◌≡◌, ◌≢◌, ℕ, Bool, true, false, cond, ◌||◌, Option, Some, None, []}
use Rattle.std.proofs.Common.{◌∷◌, refl, sym, ap, subst, ◌∙◌, inl, inr, if◌then◌else◌, arith, suc}
use Rattle.std.specs.FinMap.{get, insert}
use Rattle.std.specs.Option.{option_map}
use Rattle.irc_relay.specs.Distances.{EndsAreAmong, IsAmong}
use Rattle.irc_relay.specs.Lemmas.TellingNames.{Telling, alike, unlike, tell, same_when}
use Rattle.irc_relay.specs.Lemmas.TellingNames.{same_unless}
use Rattle.irc_relay.specs.Links.{Name, Link, part, has_ends, joined, linked, AreLinked, IsForest}
use Rattle.irc_relay.specs.Links.{HasEnds, AreJoined, distance, toward}
use Rattle.irc_relay.specs.Relay.{streams_from, from_other_end, Covers, MeetOver}
use Rattle.irc_relay.specs.Lemmas.StreamsFlow.{ends_meet, other_ends_cover}
use Rattle.irc_relay.specs.Lemmas.LinkTakenOut.{tests_tell}
use Rattle.irc_relay.specs.Lemmas.NextHops.{distance_self, linked_back, linked_joined, next_hop}
use Rattle.irc_stage.specs.Lemmas.Numbers.{get-with, one_number, same_number, same_number-refl}
use Rattle.irc_stage.specs.View.{End, View, fresh_end, with_end}
use Rattle.irc_stage.specs.Ends.{Ends}
use Rattle.irc_world.specs.Stepping.{link, link_made}
use Rattle.irc_world.specs.World.{World}
use Rattle.irc_follow.specs.AtRest.{side_state_of, AreRight}
use Rattle.irc_follow.specs.Fits.{Fits, IsNumberOf, far_of}
use Rattle.irc_follow.specs.SideState.{ItemSetting, number, IsItemSetting}
use Rattle.irc_follow.specs.Relinked.{SideAfterLink}
use Rattle.irc_follow.specs.Lemmas.PlacesOfNames.{one_place}
use Rattle.irc_network.specs.Network.{Network}
use Rattle.irc_items.specs.OneRoom.{at_rest_of}
use Rattle.irc_items.specs.Relayed.{setting_of_item, is_met_with}
use Rattle.irc_items.specs.SetUp.{routes_in, view_at}
use Rattle.irc_items.specs.Sound.{world_now}
use Rattle.irc_items.proofs.Common.Ends.{AtEnd, is_end, is_none, OnSide, on_side, on_neither}
use Rattle.irc_items.proofs.Common.Ends.{both_ends, chosen_aside, not_both, other_end, which_end}
use Rattle.irc_items.proofs.Common.Ends.{which_side}
use Rattle.irc_items.proofs.Common.Reading.{known_met}
use Rattle.irc_items.proofs.Common.Right.{right_wherever}
use Rattle.irc_items.proofs.Common.Sources.{Stands, at_end, behind, aside}
use Rattle.irc_items.proofs.Common.Step.{IsStep}
use Rattle.irc_items.proofs.Link.Given.{HasOpened, IsLinked, IsMeeting}
use Rattle.irc_items.proofs.Link.Sides.{side_of}
use Rattle.irc_items.specs.Lemmas.SetUpFacts.{fixed}

-- what stays while two sides come to know each other
abbrev pub link_setting : Network → Name → Name → ItemSetting
link_setting net near far =
    setting_of_item net (streams_from (record { near = near; far = far } ∷ (world_now net).links)
    (from_other_end (world_now net).links near far))

pub record IsLinkStep (net new : Network) (near far : Name) : Type 0 where
  pub step : IsStep net new (link near far) net.homes (link_made (world_now net) near far)
  pub meeting : IsMeeting net near far
  pub linked : IsLinked net new near far

pub fresh : (ends : Ends) (k : ℕ) (starts : Option Name)
    → get (insert ends k (fresh_end starts)) k ≡ Some (fresh_end starts)
fresh ends k starts = get-with ends k (fresh_end starts) k
    ∙ ap (λ c. cond c (Some (fresh_end starts)) (get ends k)) (same_number-refl k)

module _ {net new : Network} {near far : Name} (given : IsLinkStep net new near far) where
  abbrev s : ItemSetting
  s = link_setting net near far

  abbrev world : World
  world = world_now net

  abbrev l : Link
  l = record { near = near; far = far }

  pub apart : AreJoined world.links near far → ⊥
  apart on = subst
      (λ links. part links near ≢ part links far) given.step.sound.links given.meeting.apart on

  pub forest : IsForest (l ∷ world.links)
  forest = (apart, given.step.holds.sound.forest)

  pub covers : Covers (l ∷ world.links) (from_other_end world.links near far)
  covers = other_ends_cover l world.links forest

  pub fixed_here : IsItemSetting s
  fixed_here = fixed net given.step.sound.set_up s.streams

  pub old_ends : EndsAreAmong net.names world.links
  old_ends t u linked = sym (fixed_here.listed t) ∙ given.step.holds.sound.ends_known t u linked

  pub end_among : (a b : Name) → HasEnds l a b → IsAmong net.names a
  end_among =
      both_ends l (λ a b. IsAmong net.names a) given.meeting.near_among given.meeting.far_among

  pub right_here : AreRight s world.links (routes_in net)
  right_here = right_wherever s.homes s.streams
      (subst (λ links. AreRight (at_rest_of net) links (routes_in net)) given.step.sound.links
      given.step.one.right)

  -- ---- where lines come from

  meets : MeetOver l world.links s.streams
  meets = ends_meet l world.links forest

  -- the ends take lines from each other
  pub from_other : (a b : Name) → HasEnds l a b → (s.streams.parent a ≡ b) × (s.streams.depth a ≡ 1)
  from_other = both_ends l (λ a b. (s.streams.parent a ≡ b) × (s.streams.depth a ≡ 1))
      (meets.near_parent, meets.near_depth) (meets.far_parent, meets.far_depth)

  from_end : (a b : Name) → HasEnds l a b → (t : Name) → AreJoined world.links t a
      → t ≢ a → (s.streams.parent t ≡ toward world.links t a)
      × (s.streams.depth t ≡ suc (distance world.links t a))
  from_end = both_ends l (λ a b. (t : Name) → AreJoined world.links t a → t ≢ a
      → (s.streams.parent t ≡ toward world.links t a)
      × (s.streams.depth t ≡ suc (distance world.links t a))) meets.near_side meets.far_side

  pub stands : (t : Name) → Stands (HasEnds l) world.links s.streams 1 t
  stands t = by (which_side l world.links t)
    where
      on : (a b : Name) → HasEnds l a b → AreJoined world.links t a → Telling t a
          → Stands (HasEnds l) world.links s.streams 1 t
      on a b ends here (alike _ e) = at_end b (subst (λ v. HasEnds l v b) (sym e) ends)
          (ap s.streams.depth e ∙ (from_other a b ends).1)
      on a b ends here (unlike _ two) =
          let hop = next_hop world.links t a given.step.holds.sound.forest here two in
          behind a b ends here two (subst (λ p. AreJoined world.links p a)
          (sym (from_end a b ends t here two).0) hop.joined)
          (let away = (from_end a b ends t here two).1 in let nearer = hop.nearer in omega arith)

      by : OnSide l world.links t → Stands (HasEnds l) world.links s.streams 1 t
      by (on_side a b ends here) = on a b ends here (tell t a)
      by (on_neither none) =
          aside none (ap (distance (l ∷ world.links) t) (chosen_aside l world.links t
          (λ e o. o) t none) ∙ distance_self (l ∷ world.links) t)

  -- ---- the servers

  -- an end is open, to which the other has not named itself
  pub opened : (a b : Name) → HasEnds l a b → HasOpened net new a b
  opened =
      both_ends l (HasOpened net new) (record { starts = Some far; state = given.linked.near_view })
      (record { starts = None; state = given.linked.far_view })

  pub end_is : (a b : Name) (ends : HasEnds l a b)
      → get (view_at new a).ends (number s b) ≡ Some (fresh_end (opened a b ends).starts)
  end_is a b ends = ap (λ (v : View). get v.ends (number s b)) (opened a b ends).state
      ∙ fresh (view_at net a).ends (number s b) (opened a b ends).starts

  other_number : (a b : Name) → IsAmong net.names a → a ≢ b
      → same_number (number s a) (number s b) ≡ false
  other_number a b among two = by (same_number (number s a) (number s b)) refl
    where
      by : (c : Bool) → same_number (number s a) (number s b) ≡ c
          → same_number (number s a) (number s b) ≡ false
      by true e =
          absurd (two (one_place net.names a b among (one_number (number s a) (number s b) e)))
      by false e = e

  -- the end of a server's link to another is the one that it was, but at the ends of the new link
  end_before : (t x : Name) → IsAmong net.names x → (HasEnds l t x → ⊥)
      → get (view_at new t).ends (number s x) ≡ get (view_at net t).ends (number s x)
  end_before t x among none = by (which_end l t)
    where
      other : (starts : Option Name) (b : Name) → x ≢ b → get (with_end (number s b) starts
          (view_at net t)).ends (number s x) ≡ get (view_at net t).ends (number s x)
      other starts b two =
          get-with (view_at net t).ends (number s b) (fresh_end starts) (number s x)
          ∙ ap (λ c. cond c (Some (fresh_end starts)) (get (view_at net t).ends (number s x)))
          (other_number x b among two)

      by : AtEnd l t → get (view_at new t).ends (number s x) ≡ get (view_at net t).ends (number s x)
      by (is_end b ends) =
          ap (λ (v : View). get v.ends (number s x)) (opened t b ends).state
          ∙ other (opened t b ends).starts b (λ e. none (subst (HasEnds l t) (sym e) ends))
      by (is_none m n) = ap (λ (v : View). get v.ends (number s x)) (given.linked.other_views t m n)

  -- all of a server but its ends is what it was
  pub as_before : {A : Type 0} (f : View → A) → ((k : ℕ) (starts : Option Name) (view : View)
      → f (with_end k starts view) ≡ f view) → (t : Name) → f (view_at new t) ≡ f (view_at net t)
  as_before f same_but t = by (which_end l t)
    where
      by : AtEnd l t → f (view_at new t) ≡ f (view_at net t)
      by (is_end b ends) = ap f (opened t b ends).state
          ∙ same_but (number s b) (opened t b ends).starts (view_at net t)
      by (is_none m n) = ap f (given.linked.other_views t m n)

  pub has_ends_so : (t x : Name) → has_ends l t x ≡ true → HasEnds l t x
  has_ends_so t x so = by ((tests_tell (l ∷ []) t x t).2.0 (ap (λ b. b || false) so))
    where
      by : AreLinked (l ∷ []) t x → HasEnds l t x
      by (inl h) = h
      by (inr none) = absurd none

  pub not_ends : (t x : Name) → has_ends l t x ≡ false → HasEnds l t x → ⊥
  not_ends t x so h =
      let e = sym ((tests_tell (l ∷ []) t x t).2.1 (inl h)) ∙ ap (λ b. b || false) so in cc e

  not_joined : (t x : Name) → HasEnds l t x → joined world.links x t ≡ false
  not_joined t x ends = same_unless (part world.links x) (part world.links t)
      (λ on. not_both l world.links apart t t x ends refl (sym on))

  far_now : (t x : Name) → IsAmong net.names t → IsAmong net.names x → (b : Bool)
      → has_ends l t x ≡ b → option_map far_of (get (view_at new t).ends (number s x)) ≡
      (if linked (l ∷ world.links) t x then Some (if joined world.links x t then Some x else None)
      else None)
  far_now t x t_among x_among true e =
      ap (option_map far_of) (end_is t x (has_ends_so t x e))
      ∙ ap (λ b. Some (if b then Some x else None)) (sym (not_joined t x (has_ends_so t x e)))
      ∙ ap (λ b. if (b || linked world.links t x)
      then Some (if joined world.links x t then Some x else None) else None) (sym e)
  far_now t x t_among x_among false e =
      ap (option_map far_of) (end_before t x x_among (not_ends t x e))
      ∙ (given.step.one.servers t t_among).ends x x_among
      ∙ ap (λ b. if (b || linked world.links t x)
      then Some (if joined world.links x t then Some x else None) else None) (sym e)

  numbers_now : (t : Name) → IsAmong net.names t → (k : ℕ) (end : End)
      → get (view_at new t).ends k ≡ Some end → IsNumberOf s k
  numbers_now t among k end is = by (which_end l t)
    where
      old : get (view_at net t).ends k ≡ Some end → IsNumberOf s k
      old is = let n = (given.step.one.servers t among).no_others k end is in
          record { server = n.server; among = n.among; is = n.is }

      added : (b : Name) (starts : Option Name) → IsAmong net.names b
          → get (with_end (number s b) starts (view_at net t)).ends k ≡ Some end → (c : Bool)
          → same_number k (number s b) ≡ c → IsNumberOf s k
      added b starts b_among is true e =
          record { server = b; among = b_among; is = sym (one_number k (number s b) e) }
      added b starts b_among is false e =
          old (sym (get-with (view_at net t).ends (number s b) (fresh_end starts) k
          ∙ ap (λ c. cond c (Some (fresh_end starts)) (get (view_at net t).ends k)) e) ∙ is)

      by : AtEnd l t → IsNumberOf s k
      by (is_end b ends) = added b (opened t b ends).starts (end_among b t (other_end l t b ends))
          (sym (ap (λ (v : View). get v.ends k) (opened t b ends).state) ∙ is)
          (same_number k (number s b)) refl
      by (is_none m n) =
          old (sym (ap (λ (v : View). get v.ends k) (given.linked.other_views t m n)) ∙ is)

  -- each server is at its side, of which nobody knows of the link
  pub fits_begun : SideAfterLink → (t : Name) → IsAmong net.names t
      → Fits s t (side_of s l world (routes_in net) t) (view_at new t)
  fits_begun after_link t among = record {
    here = same_when (part world.links t) (part world.links t) refl;
    sound = after_link (at_rest_of net) (side_state_of (at_rest_of net) world (routes_in net) t) l
        (from_other_end world.links near far) f.sound
        (record {
          near = given.meeting.near_among;
          far = given.meeting.far_among;
          apart = apart;
        }) covers;
    peers = as_before (λ v. v.peers) (λ k starts view. refl) t ∙ f.peers;
    routes = as_before (λ v. v.routes) (λ k starts view. refl) t;
    ends = λ x x_among. far_now t x among x_among (has_ends l t x) refl;
    no_others = numbers_now t among;
    clients = as_before (λ v. v.clients) (λ k starts view. refl) t ∙ f.clients;
    room = as_before (λ v. v.room) (λ k starts view. refl) t ∙ f.room;
  }
    where
      f : Fits (at_rest_of net) t (side_state_of (at_rest_of net) world (routes_in net) t)
          (view_at net t)
      f = given.step.one.servers t among

  -- who was linked has named itself
  pub met_before : SideAfterLink → (t x : Name) → AreLinked world.links t x
      → is_met_with s (view_at new t) x ≡ true
  met_before after_link t x linked_so =
      known_met s (side_of s l world (routes_in net) t) t x (view_at new t)
      (fits_begun after_link t (old_ends t x linked_so))
      (old_ends x t (linked_back world.links t x linked_so))
      ((tests_tell (l ∷ world.links) t x x).2.1 (inr linked_so))
      ((tests_tell world.links x t t).1.1 (sym (linked_joined world.links t x linked_so)))
