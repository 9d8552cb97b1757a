use Rattle.std.proofs.Common.{◌∙◌, ap}
use Rattle.irc_stage.specs.Lemmas.Numbers.{taken-numbered}
use Rattle.irc_network.specs.Node.{without_way}
use Rattle.irc_network.specs.Behind.{LineQueues}
use Rattle.irc_network.proofs.node.Node.close_way.Goals as goal

pub returns : goal.returns
returns c =
    ap (λ (queues : LineQueues). record { server = c.self.inside.server; queues = queues })
    (taken-numbered c.self.inside.ways c.remove.new.self c.args.to c.remove.ensures.updates)
    ∙ ap (without_way c.args.to) c.self.view_is
