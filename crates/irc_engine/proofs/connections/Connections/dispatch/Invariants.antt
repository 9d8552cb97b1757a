use Rattle.std.proofs.Common.{[], take}
use Rattle.irc_journal.specs.Signs.{EntersAll}
use Rattle.irc_engine.specs.Loops.Connections.{Carries, KeepsMarks}
use Rattle.irc_engine.specs.Noting.{out_signs}
use Rattle.irc_engine.proofs.connections.Connections.dispatch.Given as goal

-- what has been put out so far is done
abbrev pub invariant-loop-place : goal.invariant-loop-place
invariant-loop-place g l = record {
  carries : Carries g.W.Wire.is_after [] l.fn.self (take l.place l.outs.outs) l.self;
  marks : KeepsMarks l.fn.self l.self;
  noted : EntersAll (out_signs (take l.place l.outs.outs)) l.fn.journal l.journal;
}
