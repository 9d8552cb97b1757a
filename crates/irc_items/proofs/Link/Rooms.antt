-- The rooms of the two sides of a new link: what each reads of the other's.
use Rattle.std.proofs.Common.{◌≤◌, List, length, sym}
use Rattle.std.specs.List.{AllByRecursion}
use Rattle.irc_merge.specs.Bursts.{burst}
use Rattle.irc_merge.specs.CanBeDone.{LinesCanBeDone}
use Rattle.irc_merge.specs.Laws.{AreApart}
use Rattle.irc_relay.specs.Links.{Name, joined, AreJoined}
use Rattle.irc_world.specs.World.{Setting, World}
use Rattle.irc_world.specs.WorldHolds.{IsWorld}
use Rattle.irc_items.proofs.Burst.Read.{AreHeldFirst, AreToldIn, burst_told_in, held_first}
use Rattle.irc_items.proofs.Burst.Read.{no_more_read, reads_deeds}
use Rattle.irc_items.proofs.Link.Halls.{rooms_apart}
use Rattle.irc_items.proofs.Link.Sides.{IsReadDeed, room_deeds}

-- what t's side reads of b's burst
pub record AreRooms (world : World) (t b : Name) : Type 0 where
  pub apart : AreApart (λ home. joined world.links home b) (world.hall t).room (world.hall b).room
  pub told : AreToldIn t b (λ home. joined world.links home b) (world.hall b).room
      (world.hall t).room (burst b (world.hall b).room)
  pub few : length (room_deeds world t b) ≤ length (burst b (world.hall b).room)
  pub read : AllByRecursion (IsReadDeed t) (room_deeds world t b)
  pub held : AreHeldFirst t (λ home. joined world.links home b) (world.hall t).room
      (world.hall t).room (burst b (world.hall b).room)

module _ (doable : LinesCanBeDone) (settings : List Setting) (world : World)
    (holds : IsWorld settings world) (t b : Name)
    (apart : AreJoined world.links t b → ⊥) where
  are_apart : AreApart (λ home. joined world.links home b) (world.hall t).room (world.hall b).room
  are_apart = rooms_apart settings world holds t b (λ j. apart (sym j))

  told : AreToldIn t b (λ home. joined world.links home b) (world.hall b).room (world.hall t).room
      (burst b (world.hall b).room)
  told = burst_told_in doable t b (λ home. joined world.links home b) (world.hall t).room
      (world.hall b).room (holds.sound.well_formed t) (holds.sound.well_formed b)
      (holds.within b).room are_apart

  pub rooms_meet : AreRooms world t b
  rooms_meet = record {
    apart = are_apart;
    told = told;
    few = no_more_read doable t b (λ home. joined world.links home b) (world.hall t).room
        (world.hall b).room (holds.sound.well_formed t) (holds.sound.well_formed b)
        (holds.within b).room are_apart;
    read = reads_deeds t b (λ home. joined world.links home b) (world.hall b).room
        (world.hall t).room (burst b (world.hall b).room) told;
    held = held_first doable t b (λ home. joined world.links home b) (world.hall t).room
        (world.hall b).room (holds.sound.well_formed t) (holds.sound.well_formed b) are_apart;
  }
