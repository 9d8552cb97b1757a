use Rattle.std.specs.Vec.Iter.{into_iter_items, into_iter_len}
use Rattle.irc_engine.specs.Machines.{IsStillConnected}
use Rattle.irc_doorman.specs.Doormen.{silent_of, state_with, IsSameDoorman}
use Rattle.irc_doorman.proofs.Asking.{AskedTo}
use Rattle.irc_doorman.proofs.doorman.Doorman.look.Given as goal

-- those so far were asked, and nobody went but who was closed
abbrev pub invariant-loop-conn : goal.invariant-loop-conn
invariant-loop-conn g l = record {
  asked : AskedTo g.M.Machine.server_of g.M.Machine.handles l.initial.self.asks l.moment
      (silent_of l.silence l.moment l.initial.self.guests)
      (state_with l.initial.self l.initial.out.outs) (into_iter_items l.rest)
      (state_with l.self l.out.outs);
  same : IsSameDoorman l.initial.self l.self;
  connected : IsStillConnected (g.M.Machine.server_of l.initial.self.machine) l.initial.out.outs
      (g.M.Machine.server_of l.self.machine) l.out.outs;
}

abbrev pub decreases-loop-conn : goal.decreases-loop-conn
decreases-loop-conn g l = into_iter_len l.rest
