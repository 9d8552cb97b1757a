use Rattle.std.proofs.Common.{◌≡◌, ◌+◌, ◌≤◌, min, length, subst, sym, Option}
use Rattle.std.specs.Option.{option_map}
use Rattle.irc_outbox.specs.declared.memory.Far.{Far}
use Rattle.irc_outbox.specs.Ample.{count_out, memory_out, room_of}
use Rattle.irc_outbox.specs.Memory.{told_by_far, told_or_none}
use Rattle.irc_outbox.proofs.MemoryLaws.{changed}
use Rattle.irc_outbox.proofs.memory.take.Goals as goal

pub take-requires : goal.take-requires
take-requires c = subst (λ (f : Option Far). count_out f + room_of f ≤ memory_out f)
    (sym c.in-Some.ensures.value) c.requires

pub returns-in-Some-clause-taken : goal.returns-in-Some-clause-taken
returns-in-Some-clause-taken c = changed _ _ _ _ _ _ c.in-Some.ensures.value
    (c.get_mut.follows.holds _).3 c.take.ensures.told c.take.ensures.memory

pub returns-in-Some-clause-count : goal.returns-in-Some-clause-count
returns-in-Some-clause-count c =
    subst (λ f. c.take.result ≡ min (told_or_none (option_map told_by_far f)).room
    (length c.args.bytes.now)) c.in-Some.ensures.value c.take.ensures.count
