use Rattle.irc_merge.proofs.StaysWithin.{within_is_told}
use Rattle.irc_merge.proofs.laws.within_limits_is_told.Goals as goal

pub returns : goal.returns
returns c = within_is_told
