use Rattle.std.proofs.Common.{◌∙◌, ap, sym}
use Rattle.irc_link_writer.specs.Written.{wire}
use Rattle.irc_stage.specs.EffectTold.{on_links, ways_at}
use Rattle.irc_stage.specs.Lemmas.Outcomes.{on_ok}
use Rattle.irc_stage.specs.Loops.Parts.{clients_of, served_at, view_of}
use Rattle.irc_stage.proofs.EffectsShown.{changed_by, ready_after, ready_with}
use Rattle.irc_stage.proofs.ToldOnLinks.{elsewhere_stays, still_at_hand, told_behind}
use Rattle.irc_stage.proofs.parts.ServerParts.apply.Goals as goal

pub returns-then-is_elsewhere-clause-ok : goal.returns-then-is_elsewhere-clause-ok
returns-then-is_elsewhere-clause-ok c =
    let view = view_of c.args.self.now in
    let effect = c.args.effect.now in
    on_ok c.tell.result _ _
    (λ is. told_behind (served_at c.args.self.now c.args.out.now.outs) _
    (elsewhere_stays view effect
    (sym (c.is_elsewhere.ensures view.peers c.named.ensures) ∙ c.if-is_elsewhere.true)
    c.args.out.now.outs) _ _
    (c.in_ok-ready.ensures.at_hand
    ∙ ap (λ arrival. on_links (ways_at view arrival effect) (wire view.room view.routes effect))
    c.arrival.ensures) _ is)
    c.tell.ensures

pub returns-then-is_elsewhere-clause-ready : goal.returns-then-is_elsewhere-clause-ready
returns-then-is_elsewhere-clause-ready c =
    on_ok c.tell.result _ _
    (λ is. ready_with c.args.self.now c.requires.ready c.ready.new.self c.in_ok-ready.ensures.so)
    c.tell.ensures

pub returns-clause-ok : goal.returns-clause-ok
returns-clause-ok c =
    let view = view_of c.args.self.now in
    let effect = c.args.effect.now in
    on_ok c.tell-2.result _ _
    (λ is. told_behind (record {
      state = record view {
        clients = clients_of c.settle.new.clients;
        room = c.settle.new.room.room;
      };
      out = c.hear.new.out.outs;
    }) _
    (changed_by c.args.self.now effect c.settle.new.room c.in_ok-settle.ensures.after
    (clients_of c.settle.new.clients) c.in_ok-settle.ensures.clients c.args.out.now.outs
    c.hear.new.out.outs c.in_ok-hear.ensures.shown
    (sym (c.is_elsewhere.ensures view.peers c.named.ensures) ∙ c.if-is_elsewhere.false)) _ _
    (still_at_hand c.settle.new.ways c.ready.new.self c.in_ok-settle.ensures.at_hand
    c.ready.new.line _
    (c.in_ok-ready.ensures.at_hand
    ∙ ap (λ arrival. on_links (ways_at view arrival effect) (wire view.room view.routes effect))
    c.arrival.ensures)) _ is)
    c.tell-2.ensures

pub returns-clause-ready : goal.returns-clause-ready
returns-clause-ready c =
    on_ok c.tell-2.result _ _
    (λ is. ready_after c.args.self.now c.args.effect.now c.settle.new.room
    c.in_ok-settle.ensures.after c.requires.ready c.in_ok-settle.ensures.sound
    c.settle.new.clients c.in_ok-settle.ensures.indexed c.in_ok-settle.ensures.by_nick
    c.hear.new.self c.in_ok-hear.ensures.so c.settle.new.ways
    (c.in_ok-settle.ensures.right c.args.self.now.routes c.in_ok-ready.ensures.so))
    c.tell-2.ensures
