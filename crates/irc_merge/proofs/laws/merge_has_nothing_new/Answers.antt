use Rattle.irc_merge.proofs.NothingNew.{merge_has_nothing_new}
use Rattle.irc_merge.proofs.laws.merge_has_nothing_new.Goals as goal

pub returns : goal.returns
returns c = merge_has_nothing_new
