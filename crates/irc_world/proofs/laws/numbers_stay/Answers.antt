use Rattle.irc_world.proofs.NumbersKept.{numbers_stay}
use Rattle.irc_world.proofs.laws.numbers_stay.Goals as goal

pub returns : goal.returns
returns c = numbers_stay
