use Rattle.irc_merge.proofs.EvenMerge.{merge_is_even}
use Rattle.irc_merge.proofs.laws.merge_is_even.Goals as goal

pub returns : goal.returns
returns c = merge_is_even
