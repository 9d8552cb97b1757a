use Rattle.std.specs.BTreeSet.{btree_set_len}
use Rattle.irc_engine.specs.Loops.Flushing.{FlushesSoFar}
use Rattle.irc_engine.specs.Loops.Moments.{IsAtOneIn}
use Rattle.irc_engine.proofs.engine.Core.flush.Given as goal

abbrev pub invariant-loop-conn : goal.invariant-loop-conn
invariant-loop-conn g l = record {
  so_far : FlushesSoFar g.W.Wire.is_after g.M.Machine.server_of g.M.Machine.handles l.waiting
      l.fn.self l.self;
  at_one : IsAtOneIn g.M.Machine.server_of l.self;
}

abbrev pub decreases-loop-conn : goal.decreases-loop-conn
decreases-loop-conn g l = btree_set_len l.waiting
