use Rattle.irc_outbox.proofs.AmpleLaws.{planned_by}
use Rattle.irc_outbox.proofs.MemoryLaws.{changed, on_ok}
use Rattle.irc_outbox.proofs.memory.reserve.Goals as goal

pub returns-clause-same : goal.returns-clause-same
returns-clause-same c = changed _ _ _ _ _ _ c.in-Some.ensures.value
    (c.get_mut.follows.holds _).3 c.plan.ensures.told c.plan.ensures.memory

pub returns-clause-planned : goal.returns-clause-planned
returns-clause-planned c =
    on_ok c.plan.result _ _ (λ plans. planned_by _ _ _ _ _ _ c.requires.its_own
    c.in-Some.ensures.value (c.get_mut.follows.holds _).3 plans)
    c.plan.ensures.planned
