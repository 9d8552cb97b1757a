use Rattle.irc_server.proofs.Connected.{who_is_connected_behind}
use Rattle.irc_server.proofs.laws.who_is_connected_behind.Goals as goal

pub returns : goal.returns
returns c = who_is_connected_behind
