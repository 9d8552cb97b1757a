use Rattle.irc_world.proofs.ClientsPlaces.{clients_are_numbered_once}
use Rattle.irc_world.proofs.laws.clients_are_numbered_once.Goals as goal

pub returns : goal.returns
returns c = clients_are_numbered_once
