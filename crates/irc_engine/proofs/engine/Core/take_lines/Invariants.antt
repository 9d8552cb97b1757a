use Rattle.std.proofs.Common.{[], ◌≡◌, ◌≤◌, ◌-◌, take}
use Rattle.irc_engine.specs.Hearing.{only_of}
use Rattle.irc_engine.specs.Running.{RanBy}
use Rattle.irc_engine.specs.Loops.Connections.{KeepsMarks}
use Rattle.irc_engine.specs.Loops.Moments.{IsAtOneIn, KeepsTold}
use Rattle.irc_engine.specs.Moments.{moment_of}
use Rattle.irc_engine.proofs.engine.Core.take_lines.Given as goal

-- the bytes so far are heard
abbrev pub invariant-loop-used : goal.invariant-loop-used
invariant-loop-used g l = record {
  ran : RanBy g.W.Wire.is_after g.M.Machine.server_of g.M.Machine.handles [] [] (only_of l.conn
      (take l.used l.fn.self.buffer.items))
      (moment_of l.fn.self) (moment_of l.self);
  at_one : IsAtOneIn g.M.Machine.server_of l.self;
  told : KeepsTold l.fn.self l.self;
  marks : KeepsMarks l.fn.self.connections l.self.connections;
  within : l.used ≤ l.count;
  same : l.self.buffer ≡ l.fn.self.buffer;
  items : l.self.buffer.items ≡ l.fn.self.buffer.items;
}

abbrev pub decreases-loop-used : goal.decreases-loop-used
decreases-loop-used g l = l.count - l.used
