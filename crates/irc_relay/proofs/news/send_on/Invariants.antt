use Rattle.std.proofs.Common.{◌≡◌, ◌++◌, drop}
use Rattle.irc_relay.specs.NewsNet.{sent_on}
use Rattle.irc_relay.proofs.news.send_on.Given as goal

abbrev pub invariant-loop-edge : goal.invariant-loop-edge
invariant-loop-edge l = l.flying.items ++ sent_on (drop l.edge-index l.edges) l.at l.from l.item
    ≡ l.initial.flying.items ++ sent_on l.edges l.at l.from l.item
