use Rattle.irc_follow.specs.Lemmas.SideFlows.{cut_once_lost}
use Rattle.irc_follow.proofs.laws.cut_once_lost.Goals as goal

pub returns : goal.returns
returns c = cut_once_lost
