use Rattle.std.proofs.Common.{[], refl, arith}
use Rattle.irc_line.specs.Lemmas.CutPieces.{piece_on}
use Rattle.irc_modes.specs.Lemmas.ModePieces.{letters_on, letters_done}
use Rattle.irc_modes.proofs.mode_text.push_letters.Goals as goal

pub loop-change-init : goal.loop-change-init
loop-change-init c = record {
  still_cut = c.push_cut.ensures.still_cut;
  pushed = piece_on _ _ [] _ _ c.push_cut.ensures.appended refl;
}

pub loop-change-preserved : goal.loop-change-preserved
loop-change-preserved c = record {
  still_cut = c.push_change.ensures.still_cut;
  pushed = letters_on c.loop-change.line.items _ _ c.loop-change.sign c.args.changes.now
      c.loop-change.change-index _ _ c.loop-change-test.true c.change-item.is
      c.push_change.ensures.pushed c.loop-change.invariant.pushed;
}

pub returns-clause-pushed : goal.returns-clause-pushed
returns-clause-pushed c =
    letters_done _ _ c.loop-change.sign c.args.changes.now c.loop-change.change-index
    (omega (arith, c.loop-change-test.false))
    c.loop-change.invariant.still_cut c.loop-change.invariant.pushed
