-- A network is sound once a link that was there is given as lost.
use Rattle.std.proofs.Common.{inl, ◌≡◌, ◌≢◌, ℕ, true, None, List, refl, sym, ap, subst, ◌∙◌}
use Rattle.irc_merge.specs.Deeds.{Deed, loses}
use Rattle.irc_relay.specs.Distances.{IsAmong}
use Rattle.irc_relay.specs.Following.{Tells, all_done}
use Rattle.irc_relay.specs.Links.{Name, Link, part, links_without, AreJoined, AreLinked, HasEnds}
use Rattle.irc_relay.specs.Relay.{streams_from, from_near_end, TakesFrom}
use Rattle.irc_relay.specs.Lemmas.NextHops.{linked_back, linked_joined}
use Rattle.irc_relay.specs.Lemmas.LinkTakenOut.{tests_tell}
use Rattle.irc_routes.specs.Known.{Known}
use Rattle.irc_server.specs.Served.{ServedKeepsItsSetting}
use Rattle.irc_world.specs.Stepping.{Stepped, cut, parted, step}
use Rattle.irc_world.specs.World.{World}
use Rattle.irc_world.specs.WorldHolds.{IsWorld}
use Rattle.irc_follow.specs.AtRest.{side_state_of, IsOfWorld}
use Rattle.irc_follow.specs.Fits.{Fits}
use Rattle.irc_follow.specs.Laws.{DoneStaysSound}
use Rattle.irc_follow.specs.SideState.{ItemSetting, SideState, IsSoundSide}
use Rattle.irc_follow.specs.Says.{machine, play}
use Rattle.irc_follow.specs.Lemmas.SideAtRest.{joined_among}
use Rattle.irc_follow.specs.Lemmas.BehindLinks.{joined_test}
use Rattle.irc_follow.specs.Lemmas.Neighbours.{IsKnownOfLines}
use Rattle.irc_network.specs.Network.{Network, given, is_at_rest}
use Rattle.irc_network.specs.Refusing.{fault_at_rest}
use Rattle.irc_items.specs.GoodLines.{no_answers}
use Rattle.irc_items.specs.OneRoom.{at_rest_of, IsOneRoom}
use Rattle.irc_items.specs.SetUp.{routes_in, settings_of, view_at}
use Rattle.irc_items.specs.Sound.{world_now, IsSound}
use Rattle.irc_items.proofs.Common.Ends.{both_ends}
use Rattle.irc_items.proofs.Common.Right.{refits}
use Rattle.irc_items.proofs.Common.Step.{is_step, AreStepLaws, HasTaken}
use Rattle.irc_items.proofs.Cut.Begins.{squits_told, terms_of_cut, AreSidesOfCut}
use Rattle.irc_items.proofs.Cut.Coming.{cut_comes_to, ComesToCut, IsCutEnd, IsCutWorld}
use Rattle.irc_items.proofs.Cut.Ends.{stays, goes, goes_back, IsLeftOrLost}
use Rattle.irc_items.proofs.Cut.Given.{cut_is_given, parted_at, parting, IsCut, IsParting}
use Rattle.irc_items.proofs.Cut.Home.{cut_home, IsCutAt, IsParted}
use Rattle.irc_items.proofs.Cut.Parts.{cut_side_fits, cut_side_sound, far_is_end, near_is_end}
use Rattle.irc_items.proofs.Cut.Parts.{said_next, taker_is_another, takes_left, takes_linked}
use Rattle.irc_items.proofs.Cut.Parts.{ways_of_end, IsEnd}
use Rattle.irc_items.proofs.Cut.Side.{IsKnownOfCuts}
use Rattle.irc_items.proofs.Cut.Sides.{cut_side, deeds_of_cut, routes_after_cut}
use Rattle.irc_items.proofs.Cut.Sound.{cut_sound, AreCutLaws}
use Rattle.irc_items.proofs.Cut.Step.{cut_setting, cut_off, end_among, ends_linked, fixed_here}
use Rattle.irc_items.proofs.Cut.Step.{left_is, left_of, old_ends, right_here, IsCutStep}
use Rattle.irc_items.proofs.Cut.Told.{side_without, tells_in_turn, IsLossOfCut, IsOfCut}
use Rattle.irc_items.proofs.Good.GoodLines.{IsWithinSide, MayKill}
use Rattle.irc_items.proofs.Good.MetEnds.{AreLinkedAlike}

pub record AreCutItemLaws : Type 0 where
  pub cut : AreCutLaws
  pub sides : IsKnownOfCuts
  pub lines : IsKnownOfLines
  pub done : DoneStaysSound
  pub kept : ServedKeepsItsSetting
  pub steps : AreStepLaws

module _ (laws : AreCutItemLaws) (net : Network) (sound : IsSound net)
    (rest : is_at_rest net ≡ true) (one : IsOneRoom net)
    (holds : IsWorld (settings_of net) (world_now net)) (near far : Name)
    (taken : fault_at_rest net (cut near far) ≡ None) where
  abbrev new : Network
  new = (given (cut near far) net).state

  abbrev s : ItemSetting
  s = cut_setting net near far

  abbrev world : World
  world = world_now net

  abbrev left : List Link
  left = left_of net near far

  abbrev routes : Name → Known
  routes = routes_in net

  abbrev routes_now : Name → Known
  routes_now = routes_after_cut s world routes left near far

  abbrev l : Link
  l = record { near = near; far = far }

  abbrev lost : Stepped
  lost = parted (settings_of net) world left near far

  stepped : step (settings_of net) world (cut near far) ≡ lost
  unfolding step
  stepped = refl

  are_parting : IsParting net near far
  are_parting = parting net sound.set_up near far taken

  cut_so : IsCut net new near far
  cut_so = cut_is_given laws.kept net sound one near far are_parting

  given_so : IsCutStep net new near far
  given_so = record {
    step = is_step laws.steps net sound rest one holds
        (cut near far) taken tt new net.homes lost stepped
        (subst (λ links. HasTaken net new (cut near far) net.homes (links_without links near far))
        sound.links cut_so.taken) sound.homes (λ client none. none);
    parting = are_parting;
    cut_so = cut_so;
  }

  -- ---- the ends

  cut_at : (a b : Name) → HasEnds l a b → IsCutAt s world routes left a b
  cut_at a b ends = record {
    fixed = fixed_here given_so;
    holds = holds;
    right = right_here given_so;
    linked_ends = ends_linked given_so a b ends;
    is_left = sym (left_is given_so a b ends);
  }

  an_end : (a b : Name) → HasEnds l a b → IsEnd world routes left (from_near_end left near far) a b
  an_end = both_ends l (IsEnd world routes left (from_near_end left near far))
      (near_is_end (cut_at near far (inl (refl, refl))))
      (far_is_end (cut_at near far (inl (refl, refl))))

  of_world : IsOfWorld s world
  of_world = record {
    homes = sound.homes;
    parents = takes_linked
        (cut_at near far (inl (refl, refl))) (an_end near far (inl (refl, refl))) refl;
  }

  -- a server that is at its part of the world, wherever lines come from
  fits_here : (t : Name) → IsAmong net.names t
      → Fits s t (side_state_of s world routes t) (view_at net t)
  fits_here t among = refits (streams_from net.links (λ server. server)) (one.servers t among)
      (one.servers t among).here
      (laws.sides.at_rest s world routes t (fixed_here given_so) of_world holds
      (right_here given_so) among) refl (λ x x_among. refl) refl refl

  -- ---- one side: a is its end, and b the other

  module _ (a b : Name) (ends : HasEnds l a b) where
    is_parted : IsParted s world routes left a b (view_at net a) (parted_at net a b)
    is_parted =
        cut_home (cut_at a b ends) (view_at net a) (fits_here a (end_among given_so a b ends))

    alike_at : (t p : Name) → AreJoined left t a → TakesFrom s.streams t p
        → AreLinkedAlike left world.links t
    alike_at t p on takes = record {
      there = λ u. (cut_off given_so a b ends).before t u;
      back = λ u l. by u ((cut_off given_so a b ends).after t u l);
    }
      where
        by : (u : Name) → IsLeftOrLost left a b t u → AreLinked left t u
        by u (stays there) = there
        by u (goes from _) =
            absurd (taker_is_another (cut_at a b ends) (an_end a b ends) refl t p on takes from)
        by u (goes_back from _) =
            absurd ((cut_off given_so a b ends).apart (sym (ap (part left) from) ∙ on))

    within : (w : SideState) → IsOfCut world.links left a w → IsWithinSide s left w
    within w side = record {
      alike = λ t p here takes. subst (λ forest. AreLinkedAlike left forest t) (sym side.forest)
          (alike_at t p ((tests_tell left t a t).1.0 (sym (side.here t) ∙ here)) takes);
      here = λ t p u here takes l two. side.here u
          ∙ joined_test left u a (sym (linked_joined left t u l)
          ∙ (tests_tell left t a t).1.0 (sym (side.here t) ∙ here));
    }

    -- a loss kills nobody
    loss_may : (t : Name) (w : SideState) (deed : Deed) (line : List ℕ)
        → IsLossOfCut world.links left a w deed
        → MayKill s no_answers lost.state routes_now a t deed line
    loss_may t w (loses server name text) line is = tt
    loss_may t w deed line is = absurd is.loss

    told : (client : ℕ) (t : Name) → TakesFrom s.streams t a → AreJoined left t a
        → Fits s t (cut_side world routes left t) (view_at new t)
        → Tells (machine s client) (play s client) (terms_of_cut net near far) a t
        (cut_side world routes left t) (view_at new t) (deeds_of_cut s routes a b)
        (squits_told s routes a b)
    told client t takes on fits =
        tells_in_turn s client a t (IsLossOfCut world.links left a) (terms_of_cut net near far)
        (λ w view deed line loss said. record {
          says = said;
          may = loss_may t w deed line loss;
          side = within w loss.side;
        }) (cut_side world routes left t) (view_at new t) (deeds_of_cut s routes a b)
        (squits_told s routes a b)
        (said_next (cut_at a b ends) (an_end a b ends) refl laws.lines t (view_at new t)
        (linked_back left t a (takes_left (cut_at a b ends) (an_end a b ends) refl t a takes)) fits)

    side_fits : (t : Name) → IsAmong net.names t → AreJoined left t a → t ≢ near → t ≢ far
        → Fits s t (cut_side world routes left t) (view_at new t)
    side_fits t among on m n =
        cut_side_fits (cut_at a b ends) (an_end a b ends) t on (at_rest_of net) (view_at new t)
        (subst (Fits (at_rest_of net) t (side_state_of (at_rest_of net) world routes t))
        (sym (cut_so.other_views t m n)) (one.servers t among))

    there : (t : Name) → AreJoined left t a → IsAmong net.names t
    there t on = joined_among net.names world.links t a holds.sound.forest (old_ends given_so)
        (end_among given_so a b ends) ((cut_off given_so a b ends).kept t a on).joined

    lost_sound : IsSoundSide s
        (all_done (play s 0) (cut_side world routes left a) (deeds_of_cut s routes a b))
    lost_sound =
        side_without laws.lines (cut_at a b ends)
        (ways_of_end (cut_at a b ends) (an_end a b ends) refl) laws.done
        (cut_side world routes left a) (record { forest = refl; here = λ x. refl })
        (λ x on. joined_test world.links x a on)
        (cut_side_sound (cut_at a b ends) (an_end a b ends) a refl (at_rest_of net)
        (one.servers a (end_among given_so a b ends)).sound)

    is_cut_end : IsCutEnd s world routes left a b (view_at new a)
    is_cut_end = subst (IsCutEnd s world routes left a b) (sym (cut_so.state a b ends)) (record {
      streams = s.streams;
      before = view_at net a;
      fitted = fits_here a (end_among given_so a b ends);
      peers = is_parted.peers ∙ (fits_here a (end_among given_so a b ends)).peers;
      known = is_parted.knows;
      room = is_parted.room;
      clients = is_parted.clients ∙ (fits_here a (end_among given_so a b ends)).clients;
      lost = is_parted.end_gone;
      others = is_parted.ends_stay;
    })

  -- ---- both

  cut_world : IsCutWorld s world routes near far
  cut_world = record {
    fixed = fixed_here given_so;
    holds = holds;
    homes = sound.homes;
    linked = ends_linked given_so near far (inl (refl, refl));
    right = right_here given_so;
    after = given_so.step.holds_after;
    streams = refl;
    sound = lost_sound;
  }

  comes : ComesToCut s world routes left near far
  comes = cut_comes_to laws.sides s world routes near far cut_world

  sides : AreSidesOfCut net new near far
  sides = record {
    end_parted = is_parted;
    end_fits = λ a b ends. comes.end_comes a b ends (view_at new a) (is_cut_end a b ends);
    side_fits = λ a b t ends on m n. side_fits a b ends t (there a b ends t on) on m n;
    told = told;
  }

  pub cut_item_sound : IsSound new
  cut_item_sound = cut_sound laws.cut given_so sides comes
