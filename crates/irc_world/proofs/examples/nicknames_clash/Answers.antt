use Rattle.irc_world.proofs.NetworksProved.{nicknames_clash}
use Rattle.irc_world.proofs.examples.nicknames_clash.Goals as goal

pub returns : goal.returns
returns c = nicknames_clash
