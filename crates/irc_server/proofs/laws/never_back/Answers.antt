use Rattle.irc_server.proofs.NeverBack.{never_back, never_back_of_all}
use Rattle.irc_server.proofs.laws.never_back.Goals as goal

pub returns-clause-one : goal.returns-clause-one
returns-clause-one c = never_back

pub returns-clause-all : goal.returns-clause-all
returns-clause-all c = never_back_of_all
