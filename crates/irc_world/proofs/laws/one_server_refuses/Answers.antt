use Rattle.irc_world.proofs.RefusedAlone.{one_server_refuses}
use Rattle.irc_world.proofs.laws.one_server_refuses.Goals as goal

pub returns : goal.returns
returns c = one_server_refuses
