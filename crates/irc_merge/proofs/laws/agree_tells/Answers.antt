use Rattle.irc_merge.proofs.AgreeTells.{agree_tells}
use Rattle.irc_merge.proofs.laws.agree_tells.Goals as goal

pub returns : goal.returns
returns c = agree_tells
