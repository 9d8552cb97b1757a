use Rattle.irc_overlaps.proofs.OneServer.{given_is_of_one}
use Rattle.irc_overlaps.proofs.laws.given_is_of_one.Goals as goal

pub returns : goal.returns
returns c = given_is_of_one
