use Rattle.std.proofs.Common.{◌∙◌, sym}
use Rattle.irc_stage.specs.Loops.Parts.{clients_of, view_of}
use Rattle.irc_stage.proofs.EffectsShown.{changed_by, ready_after}
use Rattle.irc_stage.proofs.ToldOnLinks.{elsewhere_stays}
use Rattle.irc_stage.proofs.parts.ServerParts.change.Goals as goal

pub returns-then-is_elsewhere-clause-ok : goal.returns-then-is_elsewhere-clause-ok
returns-then-is_elsewhere-clause-ok c =
    let view = view_of c.args.self.now in
    elsewhere_stays view c.args.effect.now
    (sym (c.is_elsewhere.ensures view.peers c.named.ensures) ∙ c.if-is_elsewhere.true)
    c.args.out.now.outs

pub returns-clause-ok : goal.returns-clause-ok
returns-clause-ok c =
    let view = view_of c.args.self.now in
    changed_by c.args.self.now c.args.effect.now c.settle.new.room c.in_ok-settle.ensures.after
    (clients_of c.settle.new.clients) c.in_ok-settle.ensures.clients c.args.out.now.outs
    c.hear.new.out.outs c.in_ok-hear.ensures.shown
    (sym (c.is_elsewhere.ensures view.peers c.named.ensures) ∙ c.if-is_elsewhere.false)

pub returns-clause-ready : goal.returns-clause-ready
returns-clause-ready c =
    ready_after c.args.self.now c.args.effect.now c.settle.new.room
    c.in_ok-settle.ensures.after c.requires.ready c.in_ok-settle.ensures.sound
    c.settle.new.clients c.in_ok-settle.ensures.indexed c.in_ok-settle.ensures.by_nick
    c.hear.new.self c.in_ok-hear.ensures.so c.settle.new.ways
    (c.in_ok-settle.ensures.right c.args.self.now.routes c.requires.ready.branches)
