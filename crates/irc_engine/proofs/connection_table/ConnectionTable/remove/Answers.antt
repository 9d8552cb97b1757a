use Rattle.std.proofs.Common.{None, refl}
use Rattle.std.specs.Vec.{with_item}
use Rattle.irc_engine.proofs.TableLaws.{found_slot, no_slot, none_emptied, none_set}
use Rattle.irc_engine.proofs.TableLaws.{place_emptied}
use Rattle.irc_engine.proofs.connection_table.ConnectionTable.remove.Goals as goal

pub returns-in-Some-clause-len : goal.returns-in-Some-clause-len
returns-in-Some-clause-len c =
    place_emptied c.args.self.now (record c.args.self.now {
      slots = with_item c.args.self.now.slots c.args.conn None;
    }) c.args.conn c.in-Some.slot.now
    (found_slot _ _ _ c.in-Some.ensures.item.3.0
    c.in-Some.ensures.item.1) refl

pub returns-in-None-clause-at : goal.returns-in-None-clause-at
returns-in-None-clause-at c = none_set c.args.self.now c.args.conn (no_slot _ _ c.in-None.ensures.item.3)

pub returns-in-None-clause-len : goal.returns-in-None-clause-len
returns-in-None-clause-len c =
    none_emptied c.args.self.now c.args.self.now c.args.conn (no_slot _ _ c.in-None.ensures.item.3) refl
