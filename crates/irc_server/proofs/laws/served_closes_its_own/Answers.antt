use Rattle.irc_server.proofs.OwnClosings.{closes_its_own}
use Rattle.irc_server.proofs.laws.served_closes_its_own.Goals as goal

pub returns : goal.returns
returns c = closes_its_own
