use Rattle.std.proofs.Common.{◌∙◌, ap, max, take, length, sym, subst}
use Rattle.irc_outbox.specs.Ample.{ArePlanned}
use Rattle.irc_outbox.specs.Steps.{longest_of}
use Rattle.irc_outbox.proofs.StepLaws.{longest_more, taken_more}
use Rattle.irc_outbox.proofs.memory.MemoryWire.new.Goals as goal

pub loop-step-preserved : goal.loop-step-preserved
loop-step-preserved c = record {
  fresh = c.in_ok-plan.ensures.fresh c.loop-step.invariant.fresh;
  planned = subst (λ steps. ArePlanned steps c.plan.new.fars)
      (sym (taken_more c.deref-step-items.result.now c.loop-step.step-index _ c.loop-step-test.true
      c.step-item.is))
      (c.in_ok-plan.ensures.planned.plans (take c.loop-step.step-index
      c.deref-step-items.result.now) c.loop-step.invariant.planned);
  longest_is = c.max-longest.ensures
      ∙ ap (λ n. max n (length c.bytes.result.now)) c.loop-step.invariant.longest_is
      ∙ ap (λ xs. max (longest_of (take c.loop-step.step-index c.deref-step-items.result.now))
      (length xs)) c.bytes.ensures
      ∙ sym (longest_more c.deref-step-items.result.now c.loop-step.step-index _
      c.loop-step-test.true c.step-item.is);
}
