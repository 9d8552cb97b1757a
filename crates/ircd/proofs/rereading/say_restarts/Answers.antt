use Rattle.ircd.proofs.ReadAgain.{leads_none, leads_on}
use Rattle.ircd.proofs.rereading.say_restarts.Goals as goal

pub loop-key-init : goal.loop-key-init
loop-key-init g c = λ after said. said

pub loop-key-preserved : goal.loop-key-preserved
loop-key-preserved g c = leads_on _ _ _ _ _ _ _ _ _ c.in-Some.ensures.cases.0
    c.say_if_changed.ensures c.loop-key.invariant

pub returns : goal.returns
returns g c = leads_none _ _ _ _ _ _ c.in_default.ensures.cases c.loop-key.invariant
