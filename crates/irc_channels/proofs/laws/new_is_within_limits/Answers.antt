use Rattle.irc_channels.proofs.LimitsKept.{new_is_within_limits}
use Rattle.irc_channels.proofs.laws.new_is_within_limits.Goals as goal

pub returns : goal.returns
returns c = new_is_within_limits
