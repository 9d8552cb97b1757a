use Rattle.std.proofs.Common.{◌≤◌, ◌-◌, [], length, take}
use Rattle.irc_line.specs.Lines.{Takes}
use Rattle.irc_line.proofs.framing.Framer.take.Given as goal

-- what was taken so far gave no line
abbrev pub invariant-loop-used : goal.invariant-loop-used
invariant-loop-used l = record {
  within : l.used ≤ length l.piece;
  takes : Takes l.fn.self (take l.used l.piece) [] l.self;
}

abbrev pub decreases-loop-used : goal.decreases-loop-used
decreases-loop-used l = length l.piece - l.used
