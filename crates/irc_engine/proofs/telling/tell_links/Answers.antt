use Rattle.irc_engine.proofs.ToldSoFar.{leads_all, leads_nobody, leads_on}
use Rattle.irc_engine.proofs.telling.tell_links.Goals as goal

pub loop-tidings-init : goal.loop-tidings-init
loop-tidings-init g c = record { leads = leads_all _ _ _ _; keeps = λ calls was. was }

pub loop-tidings-preserved : goal.loop-tidings-preserved
loop-tidings-preserved g c = record {
  leads = leads_on _ _ _ _ _ _ _ _ _ _ _ c.in-Some.ensures.cases.0 c.tell_link.ensures.told
      c.loop-tidings.invariant.leads;
  keeps = λ calls was. c.tell_link.ensures.keeps calls (c.loop-tidings.invariant.keeps calls was);
}

pub returns-clause-told : goal.returns-clause-told
returns-clause-told g c =
    leads_nobody _ _ _ _ _ _ _ c.in_default.ensures.cases c.loop-tidings.invariant.leads

pub returns-clause-keeps : goal.returns-clause-keeps
returns-clause-keeps g c = c.loop-tidings.invariant.keeps
