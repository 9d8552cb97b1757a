use Rattle.irc_engine.proofs.MachineLaws.{server_connects, server_refuses}
use Rattle.irc_engine.proofs.machine.ServerMachine.handle.Goals as goal

pub returns-clause-connected : goal.returns-clause-connected
returns-clause-connected c =
    server_connects c.who_is_connected.ensures _ _ _ _ _ c.handle.result c.handle.ensures

pub returns-clause-refused : goal.returns-clause-refused
returns-clause-refused c = server_refuses _ _ _ _ _ c.handle.result c.handle.ensures
