use Rattle.irc_modes.specs.JoinedLaws.{joined_is_within_limits}
use Rattle.irc_modes.proofs.laws.joined_is_within_limits.Goals as goal

pub returns : goal.returns
returns c = joined_is_within_limits
