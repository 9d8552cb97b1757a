use Rattle.std.proofs.Common.{ap, ◌∙◌}
use Rattle.std.specs.List.{flat_map}
use Rattle.std.proofs.lemmas.List.{take_all}
use Rattle.irc_line.specs.Lines.{lines}
use Rattle.irc_line.proofs.Runs.{all_lines}
use Rattle.irc_line.proofs.framing.lines_of_pieces.Goals as goal

pub returns : goal.returns
returns c =
    all_lines _ _ _ c.loop-piece.invariant
    ∙ ap (λ ps. lines (flat_map (λ p. p.now) ps))
    (take_all c.loop-piece.piece-index c.args.pieces.now c.loop-piece-test.false)
