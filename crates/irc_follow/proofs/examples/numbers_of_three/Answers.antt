use Rattle.irc_follow.proofs.ExamplesProved.{numbers_of_three}
use Rattle.irc_follow.proofs.examples.numbers_of_three.Goals as goal

pub returns : goal.returns
returns c = numbers_of_three
