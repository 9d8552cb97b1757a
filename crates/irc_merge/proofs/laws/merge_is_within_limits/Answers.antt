use Rattle.irc_merge.specs.Merge.{merge}
use Rattle.irc_merge.proofs.NothingNew.{merge_has_nothing_new}
use Rattle.irc_merge.proofs.StaysWithin.{both_within}
use Rattle.irc_merge.proofs.laws.merge_is_within_limits.Goals as goal

pub returns : goal.returns
returns c = λ one other well_one well_other. both_within one other (merge one other)
    (merge_has_nothing_new one other well_one well_other)
