use Rattle.irc_world.proofs.ServedAlone.{one_server_is_the_network}
use Rattle.irc_world.proofs.laws.one_server_is_the_network.Goals as goal

pub returns : goal.returns
returns c = one_server_is_the_network c.alone_is_alone.ensures c.lone_server_is_one_room.ensures
