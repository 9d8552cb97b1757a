use Rattle.irc_world.proofs.NetworksProved.{sides_are_joined}
use Rattle.irc_world.proofs.examples.sides_are_joined.Goals as goal

pub returns : goal.returns
returns c = sides_are_joined
