use Rattle.irc_world.proofs.SmallWorldsProved.{lines_at_most}
use Rattle.irc_world.proofs.examples.lines_at_most.Goals as goal

pub returns : goal.returns
returns c = lines_at_most
