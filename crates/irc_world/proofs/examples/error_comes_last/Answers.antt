use Rattle.irc_world.proofs.SmallWorldsProved.{error_comes_last}
use Rattle.irc_world.proofs.examples.error_comes_last.Goals as goal

pub returns : goal.returns
returns c = error_comes_last
