use Rattle.irc_world.proofs.SmallWorldsProved.{passwords_differ}
use Rattle.irc_world.proofs.examples.passwords_differ.Goals as goal

pub returns : goal.returns
returns c = passwords_differ
