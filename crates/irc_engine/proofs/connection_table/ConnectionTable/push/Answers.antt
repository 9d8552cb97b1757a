use Rattle.std.proofs.Common.{refl}
use Rattle.std.proofs.lemmas.Result.{IfOk-weaker}
use Rattle.std.specs.Vec.{with_item}
use Rattle.irc_engine.proofs.TableLaws.{found_slot, no_place, no_slot, place_kept, place_through}
use Rattle.irc_engine.proofs.connection_table.ConnectionTable.push.Goals as goal

pub returns-in-Some-clause-at : goal.returns-in-Some-clause-at
returns-in-Some-clause-at c =
    IfOk-weaker c.push.result _ _ (λ pushed so. place_through _ _ _ _ _ _ _
    (found_slot _ _ _ c.in-Some.ensures.item.3.0
    c.in-Some.ensures.item.1) refl so)
    c.push.ensures

pub returns-in-Some-clause-len : goal.returns-in-Some-clause-len
returns-in-Some-clause-len c =
    IfOk-weaker c.push.result _ _ (λ pushed so. place_kept c.args.self.now
    (record c.args.self.now {
      slots = with_item c.args.self.now.slots
          c.args.conn c.push.new.slot;
    }) c.args.conn c.in-Some.slot.now c.push.new.slot
    (found_slot _ _ _ c.in-Some.ensures.item.3.0
    c.in-Some.ensures.item.1) refl so)
    c.push.ensures

pub returns-in-None-clause-at : goal.returns-in-None-clause-at
returns-in-None-clause-at c = no_place _ _ _ _ _ (no_slot _ _ c.in-None.ensures.item.3) refl refl
