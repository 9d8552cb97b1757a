use Rattle.tests_networks.proofs.OfRuns.{whole}
use Rattle.tests_networks.proofs.rooms.Goals as goal

pub returns : goal.returns
returns c = whole c.every_network_is_one_room.ensures c.args.net.now c.one_room.ensures
