use Rattle.irc_merge.proofs.EvenMerge.{merge_associates}
use Rattle.irc_merge.proofs.laws.merge_associates.Goals as goal

pub returns : goal.returns
returns c = merge_associates
