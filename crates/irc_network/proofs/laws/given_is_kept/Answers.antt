use Rattle.irc_network.proofs.AtRest.{given_is_kept}
use Rattle.irc_network.proofs.laws.given_is_kept.Goals as goal

pub returns : goal.returns
returns c = given_is_kept
