use Rattle.irc_numbers.proofs.Serving.{numbers_are_nothing}
use Rattle.irc_numbers.proofs.laws.served_alike.Goals as goal

pub returns : goal.returns
returns c = numbers_are_nothing
