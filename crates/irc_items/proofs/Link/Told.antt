-- The two ends of a new link tell each other's side of their own.
use Rattle.std.proofs.Common.{◌≡◌, count_by, Some, ◌+◌, ◌≤◌, length, refl, ◌∙◌, arith, ℕ}
use Rattle.irc_merge.specs.Bursts.{burst}
use Rattle.irc_relay.specs.Distances.{IsAmong}
use Rattle.irc_relay.specs.Links.{Name, Link, HasEnds}
use Rattle.irc_room.specs.Invitations.{of_home}
use Rattle.irc_routes.specs.Known.{servers_told}
use Rattle.irc_stage.specs.View.{fresh_end, password_for}
use Rattle.irc_world.specs.World.{World}
use Rattle.irc_follow.specs.SideState.{ItemSetting, number}
use Rattle.irc_follow.specs.Relinked.{SideAfterLink}
use Rattle.irc_network.specs.Laws.{RestStays}
use Rattle.irc_network.specs.Network.{Network}
use Rattle.irc_items.specs.SetUp.{routes_in, settings_of, view_at}
use Rattle.irc_items.specs.Sound.{world_now}
use Rattle.irc_items.proofs.Burst.Collisions.{introduces}
use Rattle.irc_items.proofs.Link.Begins.{terms_of_link}
use Rattle.irc_items.proofs.Link.RoomTold.{room_told, AreRoomLaws}
use Rattle.irc_items.proofs.Link.Rooms.{rooms_meet}
use Rattle.irc_items.proofs.Link.Step.{apart, as_before, end_among, end_is, fits_begun, fixed_here}
use Rattle.irc_items.proofs.Link.Step.{forest, link_setting, opened, right_here, IsLinkStep}
use Rattle.irc_items.proofs.Link.Starts.{answered_of_link, lines_of_link, link_tells, IsSideOfLink}
use Rattle.irc_items.proofs.Link.Ways.{link_lines}
use Rattle.irc_items.proofs.Link.Sides.{deeds_of_link, side_of}
use Rattle.irc_items.proofs.Common.Ends.{both_ends, not_both, other_end}
use Rattle.irc_follow.specs.Says.{machine, play}
use Rattle.irc_relay.specs.Following.{Tells}

module _ {net new : Network} {near far : Name} (laws : AreRoomLaws) (after_link : SideAfterLink)
    (quiet : RestStays)
    (given : IsLinkStep net new near far) where
  abbrev s : ItemSetting
  s = link_setting net near far

  abbrev world : World
  world = world_now net

  abbrev l : Link
  l = record { near = near; far = far }

  side : (t b : Name) → HasEnds l t b → IsSideOfLink s l world (routes_in net) t b
  side t b ends = record {
    ends = ends;
    t_among = end_among given t b ends;
    b_among = end_among given b t (other_end l t b ends);
    fixed = fixed_here given;
    streams = refl;
    forest = forest given;
    right = right_here given;
    holds = given.step.holds;
    rooms = rooms_meet laws.doable (settings_of net) world given.step.holds t b
        (λ on. not_both l world.links (apart given) t t b ends refl on);
  }

  room_of : (t : Name) → IsAmong net.names t → (view_at new t).room ≡ of_home t (world.hall t).room
  room_of t among = as_before given (λ v. v.room) (λ k starts view. refl) t
      ∙ (given.step.one.servers t among).room

  routes_of : (t : Name) → (view_at new t).routes ≡ routes_in net t
  routes_of t = as_before given (λ v. v.routes) (λ k starts view. refl) t

  word_of : (t b : Name) → HasEnds l t b → password_for (view_at new t) b ≡ Some given.meeting.word
  word_of t b ends = as_before given (λ v. password_for v b) (λ k starts view. refl) t
      ∙ both_ends l (λ t b. password_for (view_at net t) b
      ≡ Some given.meeting.word) given.meeting.near_word given.meeting.far_word t b ends

  module _ (t b : Name) (ends : HasEnds l t b) where
    far_among : IsAmong net.names b
    far_among = end_among given b t (other_end l t b ends)

    pub told_by_link : (client : ℕ) → Tells (machine s client) (play s client)
        (terms_of_link net near far) b t (side_of s l world (routes_in net) t) (view_at new t)
        (deeds_of_link s world (routes_in net) t b) (link_lines after_link quiet given b t)
    told_by_link client =
        link_tells laws.sides (side t b ends) (view_at new t) (view_at new b)
        (fits_begun given after_link t (end_among given t b ends)) (routes_of b)
        (room_of b far_among) given.meeting.word given.meeting.is_word client
        (word_of t b ends) (word_of b t (other_end l t b ends))
        (fresh_end (opened given t b ends).starts) (end_is given t b ends) refl refl
        (room_told laws s l world (routes_in net) t b (side t b ends) client)

    pub few_lines : length (link_lines after_link quiet given b t)
        ≤ 2 + (length (servers_told (routes_in net b) (number s t)) + length
        (burst b (world.hall b).room))
    few_lines =
        let long = lines_of_link laws.sides (side t b ends) (view_at new t) (view_at new b)
        (fits_begun given after_link t (end_among given t b ends)) (routes_of b)
        (room_of b far_among) given.meeting.word given.meeting.is_word
        (word_of b t (other_end l t b ends)) in
        omega arith

    -- of which so many may be answered
    pub few_answered : count_by introduces (link_lines after_link quiet given b t)
        ≤ 1 + (length (servers_told (routes_in net b) (number s t)) + length
        (burst b (world.hall b).room))
    few_answered =
        answered_of_link laws.sides (side t b ends) (view_at new t) (view_at new b)
        (fits_begun given after_link t (end_among given t b ends)) (routes_of b)
        (room_of b far_among) given.meeting.word given.meeting.is_word
        (word_of b t (other_end l t b ends))
