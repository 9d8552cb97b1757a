use Rattle.std.proofs.Common.{subst}
use Rattle.irc_net.specs.Calls.{NetView}
use Rattle.irc_net.specs.OneRoom.{TakesFew}
use Rattle.irc_net.proofs.StaysOneRoom.{takes_few}
use Rattle.irc_net.proofs.net.Net.lines_taken.Goals as goal

pub returns-clause-few : goal.returns-clause-few
returns-clause-few g c =
    subst (λ (net : NetView). TakesFew net c.lines_taken.result) c.self.view_is
    (takes_few c.taken_are_few.ensures (record {
      failed = c.self.inside.failed;
      network = c.self.inside.network;
    }) c.lines_taken.result c.self.invariant
    c.lines_taken.ensures)
