use Rattle.std.proofs.Common.{◌∙◌, [], ap}
use Rattle.irc_stage.specs.Lemmas.Numbers.{put-numbered}
use Rattle.irc_network.specs.Behind.{LineQueues}
use Rattle.irc_network.specs.Lemmas.Outcomes.{on_any, on_err}
use Rattle.irc_network.specs.Node.{with_way}
use Rattle.irc_network.proofs.node.Node.open_way.Goals.{in-Ok, in-Err}
use Rattle.irc_network.proofs.node.Node.open_way.Goals as goal

pub returns : goal.returns
returns c = elim c.match-insert.branch [
  | in-Ok w ↦ on_any c.match-insert.result
      (ap (λ (queues : LineQueues). record { server = c.self.inside.server; queues = queues })
      (put-numbered c.self.inside.ways c.insert.new.self c.args.to [] w.in-Ok.ensures.updates)
      ∙ ap (with_way c.args.to) c.self.view_is)
  | in-Err w ↦ on_err _ c.match-insert.result _ w.result-is
]
