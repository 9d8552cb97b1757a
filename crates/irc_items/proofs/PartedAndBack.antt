-- In whatever order lines are delivered: bursts that cross meet, a link that is lost parts a room,
-- once it is back the room is one again, and whose nickname is on both sides of a link is gone.
use Rattle.std.proofs.Common.{◌≡◌, ℕ, true, None, List, ◌++◌, append-nil, codes, sym, ap, ◌∙◌}
use Rattle.irc_world.specs.Networks.{als_people, bos_people, cut_off, in_a_line, three_people}
use Rattle.irc_world.specs.Networks.{three_peers, two_apart, with_other_zed, with_zed, LinkIsBack}
use Rattle.irc_world.specs.Networks.{LinkIsLost, NicknamesClash, PeopleMeet}
use Rattle.irc_world.specs.Owed.{world_of}
use Rattle.irc_world.specs.Refused.{refused}
use Rattle.irc_world.specs.Stepping.{Item, cut, link, step}
use Rattle.irc_world.specs.WithinLimits.{IsItemWithin}
use Rattle.irc_world.specs.World.{Setting, World}
use Rattle.irc_network.specs.Network.{Network, given, is_at_rest, received_by}
use Rattle.irc_items.specs.InAnyOrder.{ClashingNicknamesGo, CrossingBurstsMeet, IsReached}
use Rattle.irc_items.specs.InAnyOrder.{RejoinJoinsTheRooms, SplitPartsTheRoom}
use Rattle.irc_items.specs.Laws.{IsGivenAtRest, RefusalsAreTheWorlds}
use Rattle.irc_items.specs.SetUp.{settings_of}
use Rattle.irc_items.specs.Sound.{world_now, IsSound}
use Rattle.irc_items.proofs.InAnyOrder.{item_is_received, later, AreReceivingLaws, IsLater}
use Rattle.irc_items.proofs.Common.ItemsMore.{world_more}

-- what is so then
record IsAfter (settings : List Setting) (world : World) (item : Item)
    (net new : Network) : Type 0 where
  sound : IsSound new
  settings_are : settings_of new ≡ settings
  world_is : world_now new ≡ (step settings world item).state
  received : (client : ℕ) → received_by new client ≡ received_by net client
      ++ (step settings world item).out client

-- an item that the world of a network takes, and lines that are delivered then until none is on its
-- way
module _ (laws : AreReceivingLaws) (refusals : RefusalsAreTheWorlds) (settings : List Setting)
    (world : World) (item : Item) (net new : Network)
    (sound : IsSound net) (at_rest : is_at_rest net ≡ true)
    (settings_are : settings_of net ≡ settings) (world_is : world_now net ≡ world)
    (taken : refused settings world item ≡ None) (within : IsItemWithin item)
    (reached : IsReached (given item net).state new) (rest : is_at_rest new ≡ true)
  where
    given_so : IsGivenAtRest net item
    given_so = record {
      at_rest = at_rest;
      taken = refusals net item sound at_rest ∙ (λ i. refused (settings_are i) (world_is i) item)
          ∙ taken;
      within = within;
    }

    so : IsLater (given item net).state new
    so = later laws (given item net).state new (laws.stays net item sound given_so) reached

    set : settings_of new ≡ settings
    set = so.settings ∙ laws.given_settings net item ∙ settings_are

    by_item : IsAfter settings world item net new
    by_item = record {
      sound = so.sound;
      settings_are = set;
      world_is = (λ i. world_of (set i) ((so.items ∙ laws.items item net) i))
          ∙ world_more settings net.items item
          ∙ ap (λ w. (step settings w item).state)
          (ap (λ ss. world_of ss net.items) (sym settings_are) ∙ world_is);
      received = λ client. item_is_received laws net new item client
          (record { sound = sound; given_so = given_so; reached = reached; rest = rest })
          ∙ (λ i. received_by net client ++ (step (settings_are i) (world_is i) item).out client);
    }

-- ---- bursts that cross

pub crossing_bursts_meet : AreReceivingLaws → RefusalsAreTheWorlds → PeopleMeet → CrossingBurstsMeet
crossing_bursts_meet laws refusals example net new apart reached rest = record {
  to_al = after.received 1 ∙ ap (λ lines. received_by net 1 ++ lines) example.to_al;
  to_an = after.received 2 ∙ ap (λ lines. received_by net 2 ++ lines) example.to_an
      ∙ append-nil (received_by net 2);
  to_bo = after.received 3 ∙ ap (λ lines. received_by net 3 ++ lines) example.to_bo;
  to_cy = after.received 4 ∙ ap (λ lines. received_by net 4 ++ lines) example.to_cy
      ∙ append-nil (received_by net 4);
}
  where
    after : IsAfter three_peers (two_apart als_people bos_people)
        (link (codes "a.net") (codes "b.net")) net new
    after = by_item laws refusals three_peers (two_apart als_people bos_people)
        (link (codes "a.net") (codes "b.net")) net new
        apart.sound apart.rest apart.settings apart.world example.taken tt reached rest

-- ---- the link is lost

pub split_parts_the_room : AreReceivingLaws → RefusalsAreTheWorlds → LinkIsLost → SplitPartsTheRoom
split_parts_the_room laws refusals example net new line reached rest = record {
  to_al = after.received 1 ∙ ap (λ lines. received_by net 1 ++ lines) example.to_al;
  to_bo = after.received 2 ∙ ap (λ lines. received_by net 2 ++ lines) example.to_bo;
  to_cy = after.received 3 ∙ ap (λ lines. received_by net 3 ++ lines) example.to_cy;
  parted = record {
    sound = after.sound;
    rest = rest;
    settings = after.settings_are;
    world = after.world_is;
  };
}
  where
    after : IsAfter three_peers (in_a_line three_people)
        (cut (codes "a.net") (codes "b.net")) net new
    after = by_item laws refusals three_peers (in_a_line three_people)
        (cut (codes "a.net") (codes "b.net")) net new
        line.sound line.rest line.settings line.world example.taken tt reached rest

-- ---- the link is back

pub rejoin_joins_the_rooms : AreReceivingLaws → RefusalsAreTheWorlds → LinkIsBack
    → RejoinJoinsTheRooms
rejoin_joins_the_rooms laws refusals example net new parted reached rest = record {
  to_al = after.received 1 ∙ ap (λ lines. received_by net 1 ++ lines) example.to_al;
  to_bo = after.received 2 ∙ ap (λ lines. received_by net 2 ++ lines) example.to_bo;
  to_cy = after.received 3 ∙ ap (λ lines. received_by net 3 ++ lines) example.to_cy;
}
  where
    after : IsAfter three_peers cut_off.state (link (codes "a.net") (codes "b.net")) net new
    after = by_item laws refusals three_peers cut_off.state
        (link (codes "a.net") (codes "b.net")) net new
        parted.sound parted.rest parted.settings parted.world example.taken tt reached rest

-- ---- a nickname on both sides

pub clashing_nicknames_go : AreReceivingLaws → RefusalsAreTheWorlds → NicknamesClash
    → ClashingNicknamesGo
clashing_nicknames_go laws refusals example net new apart reached rest = record {
  to_al = after.received 1 ∙ ap (λ lines. received_by net 1 ++ lines) example.to_al;
  to_zed = after.received 2 ∙ ap (λ lines. received_by net 2 ++ lines) example.to_zed;
  to_bo = after.received 3 ∙ ap (λ lines. received_by net 3 ++ lines) example.to_bo;
  to_other_zed = after.received 4 ∙ ap (λ lines. received_by net 4 ++ lines) example.to_other_zed;
}
  where
    after : IsAfter three_peers (two_apart with_zed with_other_zed)
        (link (codes "a.net") (codes "b.net")) net new
    after = by_item laws refusals three_peers (two_apart with_zed with_other_zed)
        (link (codes "a.net") (codes "b.net")) net new
        apart.sound apart.rest apart.settings apart.world example.taken tt reached rest
