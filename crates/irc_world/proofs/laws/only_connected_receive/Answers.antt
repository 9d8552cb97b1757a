use Rattle.irc_world.proofs.StandingBy.{only_connected_receive}
use Rattle.irc_world.proofs.laws.only_connected_receive.Goals as goal

pub returns : goal.returns
returns c = only_connected_receive
