use Rattle.irc_world.proofs.NetworksProved.{link_is_back}
use Rattle.irc_world.proofs.examples.link_is_back.Goals as goal

pub returns : goal.returns
returns c = link_is_back
