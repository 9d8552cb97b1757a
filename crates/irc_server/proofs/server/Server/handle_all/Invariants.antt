use Rattle.std.proofs.Common.{Option, Result, List}
use Rattle.std.specs.Vec.Iter.{into_iter_items, into_iter_len}
use Rattle.irc_batch.specs.Batches.{Sent}
use Rattle.irc_server.specs.declared.event.ServerFault.{ServerFault}
use Rattle.irc_stage.specs.View.{View}
use Rattle.irc_server.specs.ReadEvents.{AreHandled}
use Rattle.irc_server.proofs.server.Server.handle_all.Given as goal

-- whatever comes of the events that are left completes what comes of all
abbrev pub invariant-loop-event : goal.invariant-loop-event
invariant-loop-event l =
    (result : Result (Unit {0}) ServerFault) (new : Option View) (out_after : List Sent)
    → AreHandled l.self (into_iter_items l.rest) l.out.outs result new out_after
    → AreHandled l.initial.self l.fn.events.items l.initial.out.outs result new out_after

abbrev pub decreases-loop-event : goal.decreases-loop-event
decreases-loop-event l = into_iter_len l.rest
