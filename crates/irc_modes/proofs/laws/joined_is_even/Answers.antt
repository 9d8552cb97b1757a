use Rattle.irc_modes.specs.JoinedLaws.{joined_is_even}
use Rattle.irc_modes.proofs.laws.joined_is_even.Goals as goal

pub returns : goal.returns
returns c = joined_is_even
