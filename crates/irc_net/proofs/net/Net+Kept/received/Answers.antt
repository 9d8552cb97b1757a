use Rattle.std.proofs.Common.{map, subst}
use Rattle.irc_network.specs.Views.{line_bytes}
use Rattle.irc_net.specs.Calls.{NetView}
use Rattle.irc_net.specs.OneRoom.{IsOwed}
use Rattle.irc_net.proofs.StaysOneRoom.{owed}
use Rattle.irc_net.proofs.net.Net+Kept.received.Goals as goal

pub returns-clause-owed : goal.returns-clause-owed
returns-clause-owed c =
    subst (λ (net : NetView). IsOwed net c.args.client (map line_bytes c.received.result.now))
    c.self.view_is
    (owed c.received_is_front.ensures c.rest_is_one_room.ensures c.rest_as_lines.ensures.lines
    (record { failed = c.self.inside.failed; network = c.self.inside.network }) c.args.client
    (map line_bytes c.received.result.now) c.self.invariant
    c.received.ensures)
