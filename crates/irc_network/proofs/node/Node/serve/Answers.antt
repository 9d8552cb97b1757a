use Rattle.std.proofs.Common.{◌∙◌, sym, subst, refl}
use Rattle.irc_server.specs.ReadEvents.{IsHandled, read_event_of}
use Rattle.irc_network.specs.Node.{Replies, Node}
use Rattle.irc_network.proofs.Replying.{answered}
use Rattle.irc_stage.specs.Loops.Numbered.{numbered}
use Rattle.irc_network.proofs.node.Node.serve.Goals as goal

pub returns : goal.returns
returns c =
    let new : Node =
    record { server = c.handle-handled.new.self; queues = numbered c.self.inside.ways } in
    subst (λ (old : Node). Replies old
    (read_event_of c.args.event.now) new c.handle-handled.new.out.outs) c.self.view_is
    (answered (record { server = c.self.inside.server; queues = numbered c.self.inside.ways }) refl
    (subst (λ out. IsHandled c.self.inside.server c.args.event.now out c.handle-handled.result
    c.handle-handled.new.self c.handle-handled.new.out.outs) c.requires.none
    c.handle-handled.ensures)
    (sym c.is_want_of_memory.ensures ∙ c.if-is_want_of_memory.false))
