use Rattle.irc_world.proofs.SmallWorldsProved.{whereabouts}
use Rattle.irc_world.proofs.examples.whereabouts.Goals as goal

pub returns : goal.returns
returns c = whereabouts
