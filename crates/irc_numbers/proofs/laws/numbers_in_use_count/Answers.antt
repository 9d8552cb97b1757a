use Rattle.irc_numbers.proofs.InUse.{numbers_in_use_count}
use Rattle.irc_numbers.proofs.laws.numbers_in_use_count.Goals as goal

pub returns : goal.returns
returns c = numbers_in_use_count
