use Rattle.std.proofs.Common.{map}
use Rattle.irc_net.specs.NetworkViews.{line_bytes}
use Rattle.tests_networks.proofs.OfRuns.{reads_owed}
use Rattle.tests_networks.proofs.lines.Goals as goal

pub returns : goal.returns
returns c = reads_owed c.every_network_is_one_room.ensures c.args.net.now c.args.client
    (map line_bytes c.received.result.now) c.received.ensures.owed
