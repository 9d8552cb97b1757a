use Rattle.irc_modes.specs.JoinedLaws.{joined_with_itself}
use Rattle.irc_modes.proofs.laws.joined_with_itself.Goals as goal

pub returns : goal.returns
returns c = joined_with_itself
