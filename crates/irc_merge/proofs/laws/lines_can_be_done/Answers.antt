use Rattle.irc_merge.proofs.CanBeDone.{lines_can_be_done}
use Rattle.irc_merge.proofs.laws.lines_can_be_done.Goals as goal

pub returns : goal.returns
returns c = lines_can_be_done
