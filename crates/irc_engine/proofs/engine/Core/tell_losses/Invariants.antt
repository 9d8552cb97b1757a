use Rattle.std.proofs.Common.{◌≡◌}
use Rattle.irc_engine.specs.Loops.Connections.{KeepsMarks}
use Rattle.irc_engine.specs.Loops.Counts.{count_of}
use Rattle.irc_engine.specs.Running.{RanOnBy, TellsLossesBy}
use Rattle.irc_engine.specs.Loops.Moments.{IsAtOneIn}
use Rattle.irc_engine.specs.Moments.{moment_of}
use Rattle.irc_engine.proofs.engine.Core.tell_losses.Given as goal

abbrev pub invariant-loop-conn : goal.invariant-loop-conn
invariant-loop-conn g l = record {
  ran : RanOnBy g.W.Wire.is_after g.M.Machine.server_of g.M.Machine.handles (moment_of l.fn.self)
      (moment_of l.self);
  in_order : TellsLossesBy g.W.Wire.is_after g.M.Machine.server_of g.M.Machine.handles (moment_of
      l.fn.self) (moment_of l.self);
  at_one : IsAtOneIn g.M.Machine.server_of l.self;
  marks : KeepsMarks l.fn.self.connections l.self.connections;
  same : l.self.buffer ≡ l.fn.self.buffer;
}

abbrev pub decreases-loop-conn : goal.decreases-loop-conn
decreases-loop-conn g l = count_of l.self.connections
