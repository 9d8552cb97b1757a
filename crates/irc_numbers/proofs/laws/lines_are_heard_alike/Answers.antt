use Rattle.irc_numbers.proofs.Meaning.{lines_are_heard_alike}
use Rattle.irc_numbers.proofs.laws.lines_are_heard_alike.Goals as goal

pub returns : goal.returns
returns c = lines_are_heard_alike
