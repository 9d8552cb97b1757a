use Rattle.irc_server.proofs.OneMachine.{owes_the_same}
use Rattle.irc_server.proofs.laws.lone_server_owes_the_same.Goals as goal

pub returns : goal.returns
returns c = owes_the_same c.lone_server_is_one_room.ensures
