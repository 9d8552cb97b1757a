use Rattle.std.proofs.Common.{ℕ, List, ◌+◌, drop, sym, subst}
use Rattle.std.specs.Borrow.{Bor}
use Rattle.std.specs.List.{flat_map}
use Rattle.irc_script.specs.Sinks.{Prints, Loses, sink}
use Rattle.irc_script.specs.Lemmas.Printed.{more_at, around_at}
use Rattle.irc_script.specs.Lemmas.Sinking.{prints_both, prints_loses, loses_more, printing_failed}
use Rattle.irc_script.proofs.sink.print_pieces.Goals as goal

pub loop-piece-preserved : goal.loop-piece-preserved
loop-piece-preserved g c =
    let old = sink (g.W.Write.contents c.args.output.now) c.args.waiting.now.items in
    let new = sink (g.W.Write.contents c.print_bytes.new.output) c.print_bytes.new.waiting.items in
    subst (λ bytes. Prints old new bytes)
    (sym (more_at (λ (piece : Bor (List ℕ)). piece.now) c.args.pieces.now c.loop-piece.piece-index _
    c.loop-piece-test.true))
    (prints_both c.loop-piece.invariant c.in_ok-print_bytes.ensures)

pub returns-in_err-print_bytes : goal.returns-in_err-print_bytes
returns-in_err-print_bytes g c =
    let old = sink (g.W.Write.contents c.args.output.now) c.args.waiting.now.items in
    let new = sink (g.W.Write.contents c.print_bytes.new.output) c.print_bytes.new.waiting.items in
    printing_failed _ _ _ _ c.from_residual.ensures.0
    (subst (λ bytes. Loses old new bytes)
    (sym (around_at (λ (piece : Bor (List ℕ)). piece.now) c.args.pieces.now c.loop-piece.piece-index
    _ c.loop-piece-test.true))
    (loses_more (flat_map (λ (piece : Bor (List ℕ)). piece.now)
    (drop (c.loop-piece.piece-index + 1) c.args.pieces.now))
    (prints_loses c.loop-piece.invariant c.in_err-print_bytes.ensures)))
