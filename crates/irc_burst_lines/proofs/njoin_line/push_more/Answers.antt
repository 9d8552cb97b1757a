use Rattle.std.proofs.Common.{[], refl, arith}
use Rattle.irc_line.specs.Lemmas.CutPieces.{piece_on}
use Rattle.irc_burst_lines.proofs.NjoinPieces.{more_on, more_done}
use Rattle.irc_burst_lines.proofs.njoin_line.push_more.Goals as goal

pub loop-member-init : goal.loop-member-init
loop-member-init c = record {
  still_cut = c.push_cut.ensures.still_cut;
  pushed = piece_on _ _ [] _ _ c.push_cut.ensures.appended refl;
}

pub loop-member-preserved : goal.loop-member-preserved
loop-member-preserved c = record {
  still_cut = c.push_member.ensures.still_cut;
  pushed = more_on c.loop-member.line.items _ _ _ c.args.members.now c.loop-member.member-index _ _
      c.loop-member-test.true c.member-item.is
      c.push_cut-in-loop-member.ensures.appended c.push_member.ensures.pushed
      c.loop-member.invariant.pushed;
}

pub returns-clause-pushed : goal.returns-clause-pushed
returns-clause-pushed c =
    more_done _ _ c.args.members.now c.loop-member.member-index
    (omega (arith, c.loop-member-test.false))
    c.loop-member.invariant.still_cut c.loop-member.invariant.pushed
