use Rattle.std.proofs.Common.{cond, Some, ◌∙◌, ap}
use Rattle.irc_outbox.specs.Memory.{far_at}
use Rattle.irc_outbox.proofs.MemoryLaws.{by_order}
use Rattle.irc_outbox.proofs.memory.add.Goals as goal

pub returns-in-Ok : goal.returns-in-Ok
returns-in-Ok c = λ q. c.in-Ok.ensures.updates.0 q
    ∙ ap (λ b. cond b (Some c.args.far) (far_at c.args.fars.now q)) (by_order c.args.conn q)
