use Rattle.std.proofs.Common.{sym, ◌∙◌, ap, min, length}
use Rattle.irc_outbox.specs.Memory.{WireTold}
use Rattle.irc_outbox.specs.Steps.{failed_once}
use Rattle.irc_outbox.specs.declared.memory.Way.TheVariants.{Out}
use Rattle.irc_outbox.proofs.AnswerLaws.{refuses_so, takes_so}
use Rattle.irc_outbox.proofs.MemoryLaws.{still_told, takes, takes_none}
use Rattle.irc_outbox.proofs.StepLaws.{failed_keeps, failed_room, still_so}
use Rattle.irc_outbox.proofs.memory.MemoryWireWire.write.Goals as goal

pub returns-then-fails_now-clause-account : goal.returns-then-fails_now-clause-account
returns-then-fails_now-clause-account c =
    takes_none _ _ _ c.args.self.now.fars c.fails_now.new.fars
    (still_told _ (failed_once Out) c.args.self.now.fars c.fails_now.new.fars
    (failed_keeps Out) c.fails_now.ensures.once)

pub returns-then-fails_now-clause-answer : goal.returns-then-fails_now-clause-answer
returns-then-fails_now-clause-answer c =
    refuses_so _ _ (sym c.fails_now.ensures.fails ∙ c.if-fails_now.true)

pub returns-clause-account : goal.returns-clause-account
returns-clause-account c =
    takes _ _ _ c.args.self.now.fars c.fails_now.new.fars c.take.new.fars
    (still_told _ (failed_once Out) c.args.self.now.fars c.fails_now.new.fars
    (failed_keeps Out) c.fails_now.ensures.once) c.take.ensures.taken

pub returns-clause-answer : goal.returns-clause-answer
returns-clause-answer c =
    takes_so _ _ _ (sym c.fails_now.ensures.fails ∙ c.if-fails_now.false)
    (c.take.ensures.count ∙ ap (λ room. min room (length c.args.bytes.now))
    (still_so (λ (t : WireTold). t.room) c.args.conn (failed_once Out) c.args.self.now.fars
    c.fails_now.new.fars (failed_room Out) c.fails_now.ensures.once))
