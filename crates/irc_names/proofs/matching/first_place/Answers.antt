use Rattle.irc_names.proofs.MaskSteps.{tells_first, seeks_more}
use Rattle.irc_names.proofs.matching.first_place.Goals as goal

pub returns-in_default : goal.returns-in_default
returns-in_default c = record {
  told = tells_first c.follow.result c.in_default.not-Differs c.loop-reached.invariant
      c.follow.ensures.told c.follow.ensures.first;
  shorter = c.follow.ensures.shorter;
}

pub loop-reached-preserved : goal.loop-reached-preserved
loop-reached-preserved c =
    seeks_more c.in-Some.ensures.cases.0 c.in-Differs.ensures.told c.loop-reached.invariant
