use Rattle.irc_world.proofs.NumbersKept.{next_number_is_new}
use Rattle.irc_world.proofs.laws.next_number_is_new.Goals as goal

pub returns : goal.returns
returns c = next_number_is_new
