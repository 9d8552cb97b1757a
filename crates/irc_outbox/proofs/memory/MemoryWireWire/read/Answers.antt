use Rattle.std.proofs.Common.{rules, take, subst, sym, ◌∙◌}
use Rattle.irc_outbox.specs.Memory.{WireTold, Gives}
use Rattle.irc_outbox.specs.Steps.{failed_once}
use Rattle.irc_outbox.specs.declared.memory.Way.TheVariants.{In}
use Rattle.irc_outbox.proofs.AnswerLaws.{ends_so, gives_so, read_refuses, waits_so}
use Rattle.irc_outbox.proofs.MemoryLaws.{still_told, gives_none}
use Rattle.irc_outbox.proofs.StepLaws.{failed_ends, failed_keeps, still_so}
use Rattle.irc_outbox.proofs.memory.MemoryWireWire.read.Goals as goal

pub returns-then-fails_now-clause-account : goal.returns-then-fails_now-clause-account
returns-then-fails_now-clause-account c =
    λ calls all. gives_none _ c.args.self.now.fars c.fails_now.new.fars
    (still_told _ (failed_once In) c.args.self.now.fars c.fails_now.new.fars
    (failed_keeps In) c.fails_now.ensures.once) calls _ _ all

pub returns-in-0-clause-account : goal.returns-in-0-clause-account
returns-in-0-clause-account c =
    λ calls all. (subst (λ n. Gives c.args.conn (take n c.give.new.buffer) c.fails_now.new.fars
    c.give.new.self.fars) c.in-0.is c.give.ensures.gives) calls _ _
    (still_told _ (failed_once In) c.args.self.now.fars c.fails_now.new.fars
    (failed_keeps In) c.fails_now.ensures.once calls all)

pub returns-in-0-2-clause-account : goal.returns-in-0-2-clause-account
returns-in-0-2-clause-account c =
    λ calls all. (subst (λ n. Gives c.args.conn (take n c.give.new.buffer) c.fails_now.new.fars
    c.give.new.self.fars) c.in-0.is c.give.ensures.gives) calls _ _
    (still_told _ (failed_once In) c.args.self.now.fars c.fails_now.new.fars
    (failed_keeps In) c.fails_now.ensures.once calls all)

pub returns-in_default-clause-account : goal.returns-in_default-clause-account
returns-in_default-clause-account c = λ calls all. c.give.ensures.gives calls _ _
    (still_told _ (failed_once In) c.args.self.now.fars c.fails_now.new.fars
    (failed_keeps In) c.fails_now.ensures.once calls all)

pub returns-then-fails_now-clause-answer : goal.returns-then-fails_now-clause-answer
returns-then-fails_now-clause-answer c =
    read_refuses _ _ (sym c.fails_now.ensures.fails ∙ c.if-fails_now.true)

pub returns-in-0-clause-answer : goal.returns-in-0-clause-answer
returns-in-0-clause-answer c =
    ends_so _ _ _ (sym c.fails_now.ensures.fails ∙ c.if-fails_now.false)
    (sym c.give.ensures.count ∙ c.in-0.is)
    (sym (still_so (λ (t : WireTold). t.ended) c.args.conn (failed_once In) c.args.self.now.fars
    c.fails_now.new.fars (failed_ends In) c.fails_now.ensures.once)
    ∙ sym c.give.ensures.ended ∙ sym c.has_ended.ensures ∙ c.if-has_ended.true)

pub returns-in-0-2-clause-answer : goal.returns-in-0-2-clause-answer
returns-in-0-2-clause-answer c =
    waits_so _ _ _ (sym c.fails_now.ensures.fails ∙ c.if-fails_now.false)
    (sym c.give.ensures.count ∙ c.in-0.is)
    (sym (still_so (λ (t : WireTold). t.ended) c.args.conn (failed_once In) c.args.self.now.fars
    c.fails_now.new.fars (failed_ends In) c.fails_now.ensures.once)
    ∙ sym c.give.ensures.ended ∙ sym c.has_ended.ensures ∙ c.if-has_ended.false)

pub returns-in_default-clause-answer : goal.returns-in_default-clause-answer
returns-in_default-clause-answer c =
    gives_so _ _ _ _ (sym c.fails_now.ensures.fails ∙ c.if-fails_now.false) c.give.ensures.count
    (search rules)
