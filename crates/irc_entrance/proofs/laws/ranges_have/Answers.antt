use Rattle.irc_entrance.proofs.Examples.{ranges_have}
use Rattle.irc_entrance.proofs.laws.ranges_have.Goals as goal

pub returns : goal.returns
returns c = ranges_have
