use Rattle.std.proofs.Common.{Ok, arith}
use Rattle.std.proofs.lemmas.Grind.{common_steps}
use Rattle.std.specs.Vec.Iter.{into_iter_items}
use Rattle.irc_server.proofs.Receiving.{goes_on, none_left, received_by}
use Rattle.irc_server.proofs.server.Server.handle_all.Goals as goal

pub loop-event-preserved : goal.loop-event-preserved
loop-event-preserved c = λ result new out_after left.
    c.loop-event.invariant result new out_after
    (goes_on c.loop-event.self c.handle.new.self c.in-Some.event (into_iter_items c.loop-event.rest)
    (into_iter_items c.next.new.self) c.loop-event.out.outs
    c.handle.new.out.outs c.handle.result result new out_after c.in-Some.ensures.items
    c.in_ok-handle.was c.handle.ensures left)

pub returns-clause-owed : goal.returns-clause-owed
returns-clause-owed c =
    received_by (Ok tt) c.args.self.now c.args.events.items c.args.out.now.outs c.loop-event.self
    c.loop-event.out.outs
    (c.loop-event.invariant (Ok tt) c.loop-event.self c.loop-event.out.outs
    (none_left c.loop-event.self (into_iter_items c.loop-event.rest) c.loop-event.out.outs
    (grind (arith, common_steps))))
