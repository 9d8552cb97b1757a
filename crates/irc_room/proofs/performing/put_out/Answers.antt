use Rattle.std.proofs.Common.{◌∙◌, ap, map, not, sym}
use Rattle.irc_effects.specs.Room.{Room}
use Rattle.irc_room.specs.ToldLaws.{idle_tells_nothing}
use Rattle.irc_room.proofs.performing.put_out.Goals as goal

pub returns-then-is_idle-clause-busy : goal.returns-then-is_idle-clause-busy
returns-then-is_idle-clause-busy c =
    sym (ap not (sym (c.is_idle.ensures c.args.tables.now c.requires.named) ∙ c.if-is_idle.true))

pub returns-then-is_idle-clause-shown : goal.returns-then-is_idle-clause-shown
returns-then-is_idle-clause-shown c =
    let room : Room = c.args.tables.now in
    ap (map (λ viewer. (viewer, c.args.shown.now.line))) c.requires.none
    ∙ sym (idle_tells_nothing c.args.own.now room c.args.effect.now
    (sym (c.is_idle.ensures room c.requires.named) ∙ c.if-is_idle.true))

pub show-requires-clause-busy : goal.show-requires-clause-busy
show-requires-clause-busy c =
    sym (c.is_idle.ensures c.args.tables.now c.requires.named) ∙ c.if-is_idle.false
