use Rattle.irc_channels.proofs.LimitsKept.{changed_is_within_limits}
use Rattle.irc_channels.proofs.laws.changed_is_within_limits.Goals as goal

pub returns : goal.returns
returns c = changed_is_within_limits
