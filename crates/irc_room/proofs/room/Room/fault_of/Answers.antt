use Rattle.std.proofs.Common.{◌∙◌, ap, subst, sym}
use Rattle.irc_effects.specs.Applying.{ServerRoom, room_fault}
use Rattle.irc_room.specs.Loops.Naming.{IsNamed}
use Rattle.irc_room.proofs.room.Room.fault_of.Goals as goal

pub returns : goal.returns
returns c = λ named.
    c.refusal.ensures c.self.inside.own c.self.inside.tables
    (subst (λ (k : ServerRoom). IsNamed k.room c.args.effect.now c.args.named)
    (sym c.self.view_is) named)
    ∙ ap (λ k. room_fault k c.args.effect.now) c.self.view_is
