use Rattle.irc_numerics.proofs.Lengths as lengths
use Rattle.irc_numerics.proofs.laws.within_limits_is_whole.Goals as goal

pub returns : goal.returns
returns c = lengths.within_limits_is_whole
