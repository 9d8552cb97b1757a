use Rattle.std.proofs.Common.{◌∙◌, ap, sym, subst}
use Rattle.std.specs.FinMap.{empty}
use Rattle.irc_room.specs.Codes.{room_of}
use Rattle.irc_effects.specs.Room.{IsWellFormed}
use Rattle.irc_effects.specs.Lemmas.WellFormedLaw.{no_room_is_well_formed}
use Rattle.irc_room.proofs.tables.Tables.new.Goals as goal

pub invariant_of-result : goal.invariant_of-result
invariant_of-result c =
    subst IsWellFormed (sym (ap (λ u. room_of u c.new-2.result) c.new.ensures.users
    ∙ ap (λ t. room_of empty t) c.new-2.ensures)) no_room_is_well_formed
