use Rattle.tests_networks.proofs.OfRuns.{runs_are_owed}
use Rattle.tests_networks.proofs.runs_are_owed.Goals as goal

pub returns : goal.returns
returns c = runs_are_owed c.every_network_is_one_room.ensures
