use Rattle.std.proofs.Common.{◌∙◌, sym, refl}
use Rattle.irc_outbox.specs.Serving.{once_more, next_one}
use Rattle.irc_outbox.proofs.memory.MemoryWire.report.Goals as goal

pub returns-in-Some-clause-reports : goal.returns-in-Some-clause-reports
returns-in-Some-clause-reports c = once_more _ (sym c.again.ensures ∙ c.in-Some.is)
    (record {
      steps = refl;
      at = refl;
      hand = refl;
      pending = refl;
      fars = refl;
      was_read = refl;
    }) refl

pub returns-in-None-clause-reports : goal.returns-in-None-clause-reports
returns-in-None-clause-reports c = next_one (sym c.again.ensures
    ∙ c.in-None.is) c.step_on.ensures.was_read c.step_on.ensures.serves
