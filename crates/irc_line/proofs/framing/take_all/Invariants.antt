use Rattle.std.proofs.Common.{ℕ, List, length}
use Rattle.irc_line.specs.Lines.{Begun}
use Rattle.irc_line.specs.Loops.Framing.{TakesInto}
use Rattle.irc_line.specs.Framed.{bytes_of}
use Rattle.irc_line.proofs.framing.take_all.Given as goal

-- whatever the rest gives completes what the whole piece gives
abbrev pub invariant-loop-rest : goal.invariant-loop-rest
invariant-loop-rest l = (new : Begun) (after : List (List ℕ))
    → TakesInto l.framer l.rest (bytes_of l.found.items) new after
    → TakesInto l.fn.framer l.fn.piece (bytes_of l.fn.found.items) new after

abbrev pub decreases-loop-rest : goal.decreases-loop-rest
decreases-loop-rest l = length l.rest
