use Rattle.std.proofs.Common.{[], take}
use Rattle.std.specs.List.{flat_map}
use Rattle.irc_line.specs.Lines.{nothing_begun}
use Rattle.irc_line.specs.Loops.Framing.{TakesInto}
use Rattle.irc_line.specs.Framed.{bytes_of}
use Rattle.irc_line.proofs.framing.lines_of_pieces.Given as goal

-- the lines so far are those of the pieces so far
abbrev pub invariant-loop-piece : goal.invariant-loop-piece
invariant-loop-piece l = TakesInto nothing_begun
    (flat_map (λ p. p.now) (take l.piece-index l.pieces)) [] l.framer (bytes_of l.found.items)
