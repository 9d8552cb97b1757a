use Rattle.std.proofs.Common.{◌+◌, ◌≤◌, ap, length, sym, subst, List, Option, ℕ}
use Rattle.irc_outbox.specs.declared.memory.Far.{Far}
use Rattle.irc_outbox.specs.Ample.{count_in, memory_in}
use Rattle.irc_outbox.specs.Memory.{told_by_far}
use Rattle.irc_outbox.proofs.MemoryLaws.{changed, more_taken}
use Rattle.irc_outbox.proofs.memory.keep.Goals as goal

pub append-requires : goal.append-requires
append-requires c = subst (λ (f : Option Far). count_in f + length c.args.bytes.now ≤ memory_in f)
    (sym c.in-Some.ensures.value) c.requires

pub returns-in-Some : goal.returns-in-Some
returns-in-Some c = changed _ _ _ _ _ _ c.in-Some.ensures.value (c.get_mut.follows.holds _).3
    (ap (λ (xs : List ℕ). record (told_by_far c.in-Some.far.now) { taken = xs })
    c.append.ensures.items) (more_taken _ _ c.append.ensures.memory)
