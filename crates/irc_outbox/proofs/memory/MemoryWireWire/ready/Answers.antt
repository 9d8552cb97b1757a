use Rattle.irc_outbox.proofs.MemoryLaws.{asked_told}
use Rattle.irc_outbox.proofs.memory.MemoryWireWire.ready.Goals as goal

pub returns : goal.returns
returns c = asked_told c.args.self.now.fars c.report.new.self.fars _ c.report.ensures.told
