use Rattle.irc_engine.proofs.MachineLaws.{server_stays}
use Rattle.irc_engine.proofs.machine.ServerMachine.due.Goals as goal

pub returns-clause-connected : goal.returns-clause-connected
returns-clause-connected c = server_stays _ _
