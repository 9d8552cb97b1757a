use Rattle.irc_merge.specs.Split.{split}
use Rattle.irc_merge.proofs.NothingNew.{split_has_nothing_new}
use Rattle.irc_merge.proofs.StaysWithin.{left_within}
use Rattle.irc_merge.proofs.laws.split_is_within_limits.Goals as goal

pub returns : goal.returns
returns c = λ text homes room well. left_within room (split text homes room)
    (split_has_nothing_new text homes room well)
