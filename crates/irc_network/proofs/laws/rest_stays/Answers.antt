use Rattle.irc_network.proofs.AtRest.{rest_stays}
use Rattle.irc_network.proofs.laws.rest_stays.Goals as goal

pub returns : goal.returns
returns c = rest_stays
