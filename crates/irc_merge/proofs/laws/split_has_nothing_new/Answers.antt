use Rattle.irc_merge.proofs.NothingNew.{split_has_nothing_new}
use Rattle.irc_merge.proofs.laws.split_has_nothing_new.Goals as goal

pub returns : goal.returns
returns c = split_has_nothing_new
