use Rattle.irc_outbox.proofs.MemoryLaws.{closed_told}
use Rattle.irc_outbox.proofs.memory.MemoryWireWire.close.Goals as goal

pub returns : goal.returns
returns c = closed_told _ c.args.self.now.fars c.shut.new.fars c.shut.ensures
