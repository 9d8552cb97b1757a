use Rattle.irc_numbers.proofs.EndsLast.{nothing_is_behind_an_end}
use Rattle.irc_numbers.proofs.laws.nothing_is_behind_an_end.Goals as goal

pub returns : goal.returns
returns c = nothing_is_behind_an_end
