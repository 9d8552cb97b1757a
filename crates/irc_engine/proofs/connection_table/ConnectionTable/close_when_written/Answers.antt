use Rattle.std.proofs.Common.{refl}
use Rattle.irc_engine.proofs.TableLaws.{found_slot, no_place, no_slot, place_through}
use Rattle.irc_engine.proofs.connection_table.ConnectionTable.close_when_written.Goals as goal

pub returns-in-Some-clause-at : goal.returns-in-Some-clause-at
returns-in-Some-clause-at c =
    place_through _ _ _ _ _ _ _ (found_slot _ _ _ c.in-Some.ensures.item.3.0
    c.in-Some.ensures.item.1) refl
    c.close_when_written.ensures

pub returns-in-None-clause-at : goal.returns-in-None-clause-at
returns-in-None-clause-at c = no_place _ _ _ _ _ (no_slot _ _ c.in-None.ensures.item.3) refl tt
