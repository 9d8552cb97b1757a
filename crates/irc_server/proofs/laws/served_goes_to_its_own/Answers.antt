use Rattle.irc_server.proofs.OwnServed.{goes_to_its_own}
use Rattle.irc_server.proofs.laws.served_goes_to_its_own.Goals as goal

pub returns : goal.returns
returns c = goes_to_its_own
