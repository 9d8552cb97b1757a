use Rattle.irc_server.proofs.OneMachine.{one_room}
use Rattle.irc_server.proofs.laws.lone_server_is_one_room.Goals as goal

pub returns : goal.returns
returns c = one_room
