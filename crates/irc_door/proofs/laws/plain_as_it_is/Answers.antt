use Rattle.irc_door.proofs.Plainly.{is_plainly}
use Rattle.irc_door.proofs.laws.plain_as_it_is.Goals as goal

pub returns : goal.returns
returns c = is_plainly
