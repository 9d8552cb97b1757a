use Rattle.irc_server.proofs.OwnServed.{keeps_ends}
use Rattle.irc_server.proofs.laws.served_keeps_ends.Goals as goal

pub returns : goal.returns
returns c = keeps_ends
