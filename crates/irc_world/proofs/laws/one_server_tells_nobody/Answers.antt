use Rattle.irc_world.proofs.ClientsPlaces.{one_server_tells_nobody}
use Rattle.irc_world.proofs.laws.one_server_tells_nobody.Goals as goal

pub returns : goal.returns
returns c = one_server_tells_nobody
