use Rattle.std.proofs.Common.{◌++◌, ◌∙◌, ap}
use Rattle.irc_line.specs.Bytes.{cut}
use Rattle.irc_numerics.specs.Loops.Heads.{piece_now}
use Rattle.irc_numerics.proofs.Written.{nothing_yet, pieces_go_on}
use Rattle.irc_numerics.proofs.pieces.push_each.Goals as goal

pub loop-piece-init : goal.loop-piece-init
loop-piece-init c = record { still_cut = c.requires; pushed = nothing_yet _ c.requires }

pub loop-piece-preserved : goal.loop-piece-preserved
loop-piece-preserved c = record {
  still_cut = c.push_piece.ensures.still_cut;
  pushed = pieces_go_on piece_now _ _ _ _ _ c.args.pieces.now c.loop-piece.piece-index _
      c.loop-piece-test.true c.loop-piece.invariant.pushed c.push_cut.ensures.appended
      (c.push_piece.ensures.pushed
      ∙ ap (λ piece. cut (c.push_cut.new.line.items ++ piece_now piece)) c.piece-item.is);
}
