use Rattle.tests_networks.proofs.OfRuns.{took_few}
use Rattle.tests_networks.proofs.lines_taken.Goals as goal

pub returns : goal.returns
returns c = took_few c.every_network_is_one_room.ensures c.args.net.now c.lines_taken.result
    c.lines_taken.ensures.few
