use Rattle.std.proofs.Common.{◌∙◌, ap, is_some, sym}
use Rattle.std.specs.FinMap.{get}
use Rattle.irc_stage.specs.Lemmas.Numbers.{get-numbered}
use Rattle.irc_network.specs.Node.{Node}
use Rattle.irc_network.proofs.Places.{some_copied}
use Rattle.irc_network.proofs.node.Node.has_way.Goals as goal

pub returns : goal.returns
returns c =
    c.is_some.ensures ∙ some_copied c.get.result
    ∙ ap is_some (c.get.ensures.value ∙ sym (get-numbered c.self.inside.ways c.args.to))
    ∙ ap (λ (node : Node). is_some (get node.queues c.args.to)) c.self.view_is
