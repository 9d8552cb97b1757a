use Rattle.std.proofs.Common.{take}
use Rattle.std.specs.List.{flat_map}
use Rattle.irc_script.specs.Sinks.{Prints, sink}
use Rattle.irc_script.proofs.sink.print_pieces.Given as goal

-- the pieces so far are printed
abbrev pub invariant-loop-piece : goal.invariant-loop-piece
invariant-loop-piece g l =
    Prints (sink (g.W.Write.contents l.fn.output) l.fn.waiting.items)
    (sink (g.W.Write.contents l.output) l.waiting.items)
    (flat_map (λ piece. piece.now) (take l.piece-index l.pieces))
