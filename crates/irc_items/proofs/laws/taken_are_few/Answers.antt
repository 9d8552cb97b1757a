use Rattle.irc_items.proofs.KeptSound.{taken_are_few}
use Rattle.irc_items.proofs.laws.taken_are_few.Goals as goal

pub returns : goal.returns
returns c = taken_are_few
