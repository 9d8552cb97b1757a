use Rattle.irc_modes.specs.JoinedLaws.{joined_associates}
use Rattle.irc_modes.proofs.laws.joined_associates.Goals as goal

pub returns : goal.returns
returns c = joined_associates
