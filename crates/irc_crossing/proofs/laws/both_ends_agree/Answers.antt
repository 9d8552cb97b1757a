use Rattle.irc_crossing.proofs.BothMembers.{both_ends_agree}
use Rattle.irc_crossing.proofs.BothEnds.{newcomers_agree}
use Rattle.irc_crossing.proofs.laws.both_ends_agree.Goals as goal

pub returns-clause-here : goal.returns-clause-here
returns-clause-here c = both_ends_agree

pub returns-clause-newcomers : goal.returns-clause-newcomers
returns-clause-newcomers c = newcomers_agree
