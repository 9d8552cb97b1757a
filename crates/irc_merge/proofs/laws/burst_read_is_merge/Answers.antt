use Rattle.irc_merge.proofs.ReadMerge.{burst_read_is_merge}
use Rattle.irc_merge.proofs.laws.burst_read_is_merge.Goals as goal

pub returns : goal.returns
returns c = burst_read_is_merge
