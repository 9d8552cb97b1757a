-- The network just after a link is lost: both ends have done what there is to do, and the other
-- servers of each side are about to be told.
use Rattle.std.proofs.Common.{◌≡◌, List, inl, refl, sym, ap, subst, ◌∙◌, arith}
use Rattle.irc_relay.specs.Distances.{EndsAreAmong, IsAmong}
use Rattle.irc_relay.specs.Lemmas.TellingNames.{Telling, alike, unlike, tell}
use Rattle.irc_relay.specs.Links.{Name, Link, toward, distance, links_without, AreJoined, AreLinked}
use Rattle.irc_relay.specs.Links.{HasEnds, IsForest}
use Rattle.irc_relay.specs.Relay.{streams_from, from_near_end, Covers}
use Rattle.irc_relay.specs.Lemmas.StreamsFlow.{near_ends_cover}
use Rattle.irc_relay.specs.Lemmas.NextHops.{distance_self, linked_back, next_hop}
use Rattle.irc_relay.specs.Lemmas.LinkTakenOut.{without_turned}
use Rattle.irc_world.specs.Stepping.{cut, parted}
use Rattle.irc_world.specs.World.{World}
use Rattle.irc_follow.specs.AtRest.{AreRight}
use Rattle.irc_follow.specs.SideState.{ItemSetting, IsItemSetting}
use Rattle.irc_network.specs.Network.{Network}
use Rattle.irc_items.specs.OneRoom.{at_rest_of}
use Rattle.irc_items.specs.Relayed.{setting_of_item}
use Rattle.irc_items.specs.SetUp.{routes_in, settings_of}
use Rattle.irc_items.specs.Sound.{world_now}
use Rattle.irc_items.proofs.Common.Ends.{OnSide, on_side, on_neither, both_ends, chosen_at}
use Rattle.irc_items.proofs.Common.Ends.{chosen_aside, which_side}
use Rattle.irc_items.proofs.Common.Right.{right_wherever}
use Rattle.irc_items.proofs.Common.Sources.{Stands, at_end, behind, aside}
use Rattle.irc_items.proofs.Common.Step.{IsStep}
use Rattle.irc_items.proofs.Cut.Ends.{cut_ends, AreCutEnds}
use Rattle.irc_items.proofs.Cut.Given.{IsCut, IsParting}
use Rattle.irc_items.specs.Lemmas.SetUpFacts.{fixed}

-- the links that are left
abbrev pub left_of : Network → Name → Name → List Link
left_of net near far = links_without (world_now net).links near far

-- what stays while each side loses the other's servers
abbrev pub cut_setting : Network → Name → Name → ItemSetting
cut_setting net near far = setting_of_item net
    (streams_from (left_of net near far) (from_near_end (left_of net near far) near far))

pub record IsCutStep (net new : Network) (near far : Name) : Type 0 where
  pub step : IsStep net new (cut near far) net.homes
      (parted (settings_of net) (world_now net) (left_of net near far) near far)
  pub parting : IsParting net near far
  pub cut_so : IsCut net new near far

module _ {net new : Network} {near far : Name} (given : IsCutStep net new near far) where
  abbrev s : ItemSetting
  s = cut_setting net near far

  abbrev world : World
  world = world_now net

  abbrev left : List Link
  left = left_of net near far

  abbrev l : Link
  l = record { near = near; far = far }

  pub ends_linked : (a b : Name) → HasEnds l a b → AreLinked world.links a b
  ends_linked = both_ends l (AreLinked world.links) before (linked_back world.links near far before)
    where
      before : AreLinked world.links near far
      before = subst (λ links. AreLinked links near far) given.step.sound.links given.parting.linked

  pub left_is : (a b : Name) → HasEnds l a b → links_without world.links a b ≡ left
  left_is = both_ends l (λ a b. links_without world.links a b ≡ left) refl
      (without_turned world.links far near)

  -- what the loss parts, as each end sees it
  pub cut_off : (a b : Name) → HasEnds l a b → AreCutEnds world.links left a b
  cut_off a b ends = cut_ends world.links left a b given.step.holds.sound.forest
      (ends_linked a b ends) (left_is a b ends)

  pub apart : AreJoined left near far → ⊥
  apart on = (cut_off near far (inl (refl, refl))).apart (sym on)

  pub forest : IsForest left
  forest = (cut_off near far (inl (refl, refl))).forest

  pub covers : Covers left (from_near_end left near far)
  covers = near_ends_cover left near far

  pub fixed_here : IsItemSetting s
  fixed_here = fixed net given.step.sound.set_up s.streams

  pub old_ends : EndsAreAmong net.names world.links
  old_ends t u linked = sym (fixed_here.listed t) ∙ given.step.holds.sound.ends_known t u linked

  pub end_among : (a b : Name) → HasEnds l a b → IsAmong net.names a
  end_among a b ends = old_ends a b (ends_linked a b ends)

  pub right_here : AreRight s world.links (routes_in net)
  right_here = right_wherever s.homes s.streams
      (subst (λ links. AreRight (at_rest_of net) links (routes_in net)) given.step.sound.links
      given.step.one.right)

  -- ---- where lines come from

  pub source_at : (t a b : Name) → HasEnds l a b → AreJoined left t a
      → from_near_end left near far t ≡ a
  source_at t a b ends on = chosen_at l left apart (λ e o. e) t t a b ends on

  pub stands : (t : Name) → Stands (HasEnds l) left s.streams 0 t
  stands t = by (which_side l left t)
    where
      on : (a b : Name) → HasEnds l a b → AreJoined left t a → Telling t a
          → Stands (HasEnds l) left s.streams 0 t
      on a b ends here (alike _ e) = at_end b (subst (λ v. HasEnds l v b) (sym e) ends)
          (ap (distance left t) (source_at t a b ends here ∙ sym e) ∙ distance_self left t)
      on a b ends here (unlike _ two) =
          let hop = next_hop left t a forest here two in
          let source = source_at t a b ends here in
          let away = ap (distance left t) source in
          behind a b ends here two
          (subst (λ v. AreJoined left (toward left t v) a) (sym source) hop.joined)
          (let nearer = hop.nearer in omega arith)

      by : OnSide l left t → Stands (HasEnds l) left s.streams 0 t
      by (on_side a b ends here) = on a b ends here (tell t a)
      by (on_neither none) = aside none
          (ap (distance left t) (chosen_aside l left t (λ e o. e) t none) ∙ distance_self left t)
