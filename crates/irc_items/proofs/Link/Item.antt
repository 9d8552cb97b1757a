-- A network is sound once a link is given: whoever has a nickname that is on both sides is killed.
use Rattle.std.proofs.Common.{◌≡◌, ℕ, true, None, List, ◌∷◌, refl, subst, arith}
use Rattle.irc_merge.specs.Deeds.{Deed}
use Rattle.irc_relay.specs.Following.{all_done, IsFollowing}
use Rattle.irc_relay.specs.Links.{Name, Link, HasEnds}
use Rattle.irc_relay.specs.Relay.{from_other_end}
use Rattle.irc_relay.specs.Lemmas.ActsToldOn.{followed}
use Rattle.irc_stage.specs.View.{View}
use Rattle.irc_server.specs.Served.{ServedKeepsItsSetting}
use Rattle.irc_world.specs.Stepping.{link, link_made, step}
use Rattle.irc_world.specs.World.{World}
use Rattle.irc_world.specs.WorldHolds.{IsWorld}
use Rattle.irc_follow.specs.SideState.{ItemSetting, SideState, IsSoundSide}
use Rattle.irc_follow.specs.Says.{machine, play}
use Rattle.irc_network.specs.Network.{Network, given, is_at_rest}
use Rattle.irc_network.specs.Refusing.{fault_at_rest}
use Rattle.irc_items.specs.OneRoom.{IsOneRoom}
use Rattle.irc_items.specs.Relayed.{relayed}
use Rattle.irc_items.specs.SetUp.{routes_in, settings_of}
use Rattle.irc_items.specs.Sound.{world_now, IsSound}
use Rattle.irc_items.proofs.Burst.Collisions.{answers_of}
use Rattle.irc_items.proofs.Good.GoodLines.{well_follow}
use Rattle.irc_items.proofs.Common.Ends.{not_both}
use Rattle.irc_items.proofs.Common.Step.{is_step, AreStepLaws, HasTaken}
use Rattle.irc_items.proofs.Link.Begins.{deeds_at, deeds, starts, terms_of_link, IsToldByLink}
use Rattle.irc_items.proofs.Link.Coming.{link_comes_to, IsKnownOfLinks, IsLinkedWorld}
use Rattle.irc_items.proofs.Link.Count.{told_counted}
use Rattle.irc_items.proofs.Link.Given.{link_is_given, meeting, IsLinked, IsMeeting}
use Rattle.irc_items.proofs.Link.RoomTold.{AreRoomLaws}
use Rattle.irc_items.proofs.Link.Rooms.{rooms_meet, AreRooms}
use Rattle.irc_items.proofs.Link.Step.{apart, covers, fixed_here, forest, link_setting, old_ends}
use Rattle.irc_items.proofs.Link.Step.{right_here, IsLinkStep, end_among, from_other}
use Rattle.irc_items.proofs.Link.Sides.{deeds_of_link, routes_after, side_of}
use Rattle.irc_items.proofs.Link.Sound.{link_sound, AreLinkLaws, ComesToOne}
use Rattle.irc_items.proofs.Link.Told.{few_answered, few_lines, told_by_link}

pub record AreLinkItemLaws : Type 0 where
  pub link : AreLinkLaws
  pub rooms : AreRoomLaws
  pub links : IsKnownOfLinks
  pub kept : ServedKeepsItsSetting
  pub steps : AreStepLaws

module _ (laws : AreLinkItemLaws) (net : Network) (sound : IsSound net)
    (rest : is_at_rest net ≡ true) (one : IsOneRoom net)
    (holds : IsWorld (settings_of net) (world_now net)) (near far : Name)
    (taken : fault_at_rest net (link near far) ≡ None) where
  abbrev new : Network
  new = (given (link near far) net).state

  abbrev s : ItemSetting
  s = link_setting net near far

  abbrev world : World
  world = world_now net

  abbrev l : Link
  l = record { near = near; far = far }

  stepped : step (settings_of net) world (link near far) ≡ link_made world near far
  unfolding step
  stepped = refl

  are_meeting : IsMeeting net near far
  are_meeting = meeting net sound.set_up near far taken

  linked_so : IsLinked net new near far
  linked_so = link_is_given laws.kept net sound one near far are_meeting

  given_so : IsLinkStep net new near far
  given_so = record {
    step = is_step laws.steps net sound rest one holds (link near far) taken tt new net.homes
        (link_made world near far) stepped
        (subst (λ links. HasTaken net new (link near far) net.homes (l ∷ links)) sound.links
        linked_so.taken) sound.homes (λ client none. none);
    meeting = are_meeting;
    linked = linked_so;
  }

  rooms : (t b : Name) → HasEnds l t b → AreRooms world t b
  rooms t b ends = rooms_meet laws.rooms.doable (settings_of net) world holds t b
      (λ on. not_both l world.links (apart given_so) t t b ends refl on)

  tells : IsToldByLink laws.link.after_link laws.link.quiet given_so
  tells = told_by_link laws.rooms laws.link.after_link laws.link.quiet given_so

  -- each end follows its side
  end_sound : (t b : Name) → HasEnds l t b → IsSoundSide s (all_done (play s 0)
      (side_of s l world (routes_in net) t) (deeds_of_link s world (routes_in net) t b))
  end_sound t b ends =
      subst (λ deed_list. IsSoundSide s
      (all_done (play s 0) (side_of s l world (routes_in net) t) deed_list))
      (deeds_at laws.link.after_link laws.link.quiet given_so tells 0 t t b ends refl)
      following.fits.sound
    where
      following : IsFollowing (machine s 0) (play s 0) (terms_of_link net near far) s.streams
          (relayed s new 0) (side_of s l world (routes_in net) t)
          (deeds laws.link.after_link laws.link.quiet given_so tells 0 t) t
      following =
          followed View (List ℕ) (List ℕ) SideState Deed (machine s 0) (play s 0)
          (terms_of_link net near far) (l ∷ world.links)
          (from_other_end world.links near far) (forest given_so) (covers given_so)
          (well_follow laws.link.line s 0 (fixed_here given_so) (answers_of l)
          (link_made world near far).state (routes_after s l world (routes_in net)))
          (relayed s new 0) (side_of s l world (routes_in net))
          (deeds laws.link.after_link laws.link.quiet given_so tells 0)
          (starts laws.link.after_link laws.link.quiet given_so tells 0) t
          (let depth = (from_other given_so t b ends).1 in omega arith)

  linked_world : IsLinkedWorld s l world (routes_in net)
  linked_world = record {
    fixed = fixed_here given_so;
    holds = holds;
    homes = sound.homes;
    apart = apart given_so;
    among = end_among given_so;
    right = right_here given_so;
    read = λ t b ends. (rooms t b ends).read;
    after = given_so.step.holds_after;
    sound = end_sound;
  }

  one_so : ComesToOne laws.link given_so
  one_so = record {
    comes = link_comes_to laws.links s l world (routes_in net) linked_world;
    few_lines = few_lines laws.rooms laws.link.after_link laws.link.quiet given_so;
    few_answered = few_answered laws.rooms laws.link.after_link laws.link.quiet given_so;
    few_read = λ t b ends. (rooms t b ends).few;
    counted = λ t b ends. told_counted net sound.set_up s refl world.links (routes_in net) t _
        (right_here given_so) holds.sound.forest
        (old_ends given_so) (end_among given_so t b ends);
  }

  pub link_item_sound : IsSound new
  link_item_sound = link_sound laws.link given_so tells one_so
