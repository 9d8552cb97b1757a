use Rattle.std.proofs.Common.{refl}
use Rattle.irc_outbox.specs.Memory.{WireTold}
use Rattle.irc_outbox.proofs.MemoryLaws.{gives, gives_none}
use Rattle.irc_outbox.proofs.StepLaws.{still_so}
use Rattle.irc_outbox.proofs.memory.MemoryWire.give.Goals as goal

pub returns-then-ne-clause-gives : goal.returns-then-ne-clause-gives
returns-then-ne-clause-gives c =
    gives_none _ c.args.self.now.fars c.args.self.now.fars (λ calls all. all)

pub returns-clause-gives : goal.returns-clause-gives
returns-clause-gives c = gives _ _ c.args.self.now.fars c.keep.new.fars c.keep.ensures

pub returns-clause-ended : goal.returns-clause-ended
returns-clause-ended c = still_so (λ (t : WireTold).
    t.ended) c.args.conn _ c.args.self.now.fars c.keep.new.fars (λ t. refl) c.keep.ensures
