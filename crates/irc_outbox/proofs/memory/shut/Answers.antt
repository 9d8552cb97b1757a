use Rattle.std.proofs.Common.{refl}
use Rattle.irc_outbox.proofs.MemoryLaws.{changed, same_memory}
use Rattle.irc_outbox.proofs.memory.shut.Goals as goal

pub returns-in-Some : goal.returns-in-Some
returns-in-Some c = changed _ _ _ _ _ _ c.in-Some.ensures.value (c.get_mut.follows.holds _).3 refl
    (same_memory c.in-Some.far.now)
