use Rattle.irc_hold.proofs.Examples.{clients_are_held, lines_are_judged}
use Rattle.irc_hold.proofs.Others.{others_pass}
use Rattle.irc_hold.proofs.laws.users_wait.Goals as goal

pub returns-clause-lines : goal.returns-clause-lines
returns-clause-lines c = lines_are_judged

pub returns-clause-clients : goal.returns-clause-clients
returns-clause-clients c = clients_are_held

pub returns-clause-others : goal.returns-clause-others
returns-clause-others c = others_pass
