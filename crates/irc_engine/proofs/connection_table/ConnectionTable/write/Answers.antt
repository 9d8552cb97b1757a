use Rattle.std.proofs.Common.{refl}
use Rattle.std.specs.Vec.{with_item}
use Rattle.irc_engine.proofs.TableLaws.{found_slot, no_place, no_slot, place_kept, place_through}
use Rattle.irc_engine.proofs.connection_table.ConnectionTable.write.Goals as goal

pub returns-in-Some-clause-at : goal.returns-in-Some-clause-at
returns-in-Some-clause-at g c =
    place_through _ _ _ _ _ _ _ (found_slot _ _ _ c.in-Some.ensures.item.3.0
    c.in-Some.ensures.item.1) refl
    c.write.ensures

pub returns-in-Some-clause-len : goal.returns-in-Some-clause-len
returns-in-Some-clause-len g c =
    place_kept c.args.self.now (record c.args.self.now {
      slots = with_item c.args.self.now.slots
          c.args.conn c.write.new.slot;
    }) c.args.conn c.in-Some.slot.now c.write.new.slot
    (found_slot _ _ _ c.in-Some.ensures.item.3.0
    c.in-Some.ensures.item.1) refl c.write.ensures

pub returns-in-None-clause-at : goal.returns-in-None-clause-at
returns-in-None-clause-at g c = no_place _ _ _ _ _ (no_slot _ _ c.in-None.ensures.item.3) refl (refl, refl)
