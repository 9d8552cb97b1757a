use Rattle.std.proofs.Common.{sym, subst}
use Rattle.irc_effects.specs.Effects.{IsPossible}
use Rattle.irc_effects.specs.Room.{Room}
use Rattle.irc_room.proofs.KeptWell.{kept_well}
use Rattle.irc_room.proofs.tables.Tables.change.Goals as goal

pub invariant_of-self : goal.invariant_of-self
invariant_of-self c =
    let possible = subst (λ (room : Room). IsPossible room c.args.effect.now)
    (sym c.self.view_is) c.requires in
    kept_well c.change.result c.self.inside.users c.change.new.users c.self.inside.channels
    c.change.new.channels c.args.effect.now c.self.invariant possible
    c.change.ensures.ok c.change.ensures.refused
