use Rattle.irc_world.proofs.SmallWorldsProved.{kills_come_first}
use Rattle.irc_world.proofs.examples.kills_come_first.Goals as goal

pub returns : goal.returns
returns c = kills_come_first
