use Rattle.irc_world.proofs.SmallWorldsProved.{lost_in_order}
use Rattle.irc_world.proofs.examples.lost_in_order.Goals as goal

pub returns : goal.returns
returns c = lost_in_order
