use Rattle.irc_pipes.proofs.LeanRows.{same_pipes}
use Rattle.irc_pipes.proofs.laws.same_pipes.Goals as goal

pub returns : goal.returns
returns c = same_pipes
