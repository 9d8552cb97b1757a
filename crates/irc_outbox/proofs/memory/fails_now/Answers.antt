use Rattle.std.proofs.Common.{◌∙◌, ap}
use Rattle.std.specs.Option.{option_map}
use Rattle.irc_outbox.specs.Memory.{told_by_far}
use Rattle.irc_outbox.specs.Steps.{fails_at}
use Rattle.irc_outbox.proofs.MemoryLaws.{changed}
use Rattle.irc_outbox.proofs.memory.fails_now.Goals as goal

pub returns-in-Some-clause-fails : goal.returns-in-Some-clause-fails
returns-in-Some-clause-fails c =
    c.fails_now.ensures.fails
    ∙ ap (λ f. fails_at c.args.way (option_map told_by_far f)) c.in-Some.ensures.value

pub returns-in-Some-clause-once : goal.returns-in-Some-clause-once
returns-in-Some-clause-once c = changed _ _ _ _ _ _ c.in-Some.ensures.value
    (c.get_mut.follows.holds _).3 c.fails_now.ensures.once c.fails_now.ensures.memory
