use Rattle.irc_outbox.proofs.AmpleLaws.{plans_behind}
use Rattle.irc_outbox.proofs.MemoryLaws.{whenever, on_ok, still_fresh}
use Rattle.irc_outbox.proofs.memory.plan.Goals as goal

pub returns-clause-fresh : goal.returns-clause-fresh
returns-clause-fresh c = whenever c.reserve.result _
    (λ all. still_fresh _ c.ensure.new.fars c.reserve.new.fars c.reserve.ensures.same
    (c.in_ok-ensure.ensures.fresh all))

pub returns-clause-planned : goal.returns-clause-planned
returns-clause-planned c = on_ok c.reserve.result _ _
    (plans_behind _ _ _ _ c.in_ok-ensure.ensures.planned) c.reserve.ensures.planned
