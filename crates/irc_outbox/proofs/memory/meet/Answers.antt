use Rattle.std.proofs.Common.{◌∙◌, ap}
use Rattle.std.specs.Option.{option_map}
use Rattle.irc_outbox.specs.Memory.{told_by_far}
use Rattle.irc_outbox.specs.Steps.{is_reported_at}
use Rattle.irc_outbox.proofs.MemoryLaws.{changed}
use Rattle.irc_outbox.proofs.memory.meet.Goals as goal

pub returns-in-Some-clause-reported : goal.returns-in-Some-clause-reported
returns-in-Some-clause-reported c =
    c.meet.ensures.reported ∙ ap
    (λ f. is_reported_at c.args.step.now (option_map told_by_far f)) c.in-Some.ensures.value

pub returns-in-Some-clause-met : goal.returns-in-Some-clause-met
returns-in-Some-clause-met c = changed _ _ _ _ _ _ c.in-Some.ensures.value
    (c.get_mut.follows.holds _).3 c.meet.ensures.met c.meet.ensures.memory
