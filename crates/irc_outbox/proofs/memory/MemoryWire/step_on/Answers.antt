use Rattle.std.proofs.Common.{◌≡◌, ◌≤◌, length, arith, ◌∙◌, ap, sym, refl, subst}
use Rattle.irc_outbox.specs.Memory.{told_at, Changes}
use Rattle.irc_outbox.specs.Steps.{is_reported_at, meets}
use Rattle.irc_outbox.proofs.MemoryLaws.{still_on, still_told}
use Rattle.irc_outbox.proofs.StepLaws.{meets_keeps}
use Rattle.irc_outbox.proofs.PassingLaws.{none_passed, passes_on, serves_this, step_at}
use Rattle.irc_outbox.proofs.memory.MemoryWire.step_on.Goals as goal

pub loop-self-init : goal.loop-self-init
loop-self-init c = none_passed c.args.self.now _ refl refl refl refl refl refl

pub returns-then-meet-clause-serves : goal.returns-then-meet-clause-serves
returns-then-meet-clause-serves c =
    let step = c.index-step.result.now in
    serves_this c.args.self.now c.loop-self.self _ step _ c.loop-self.invariant
    (step_at c.loop-self.self.steps.items c.loop-self.self.at step
    (omega (arith, c.loop-self-test.true, c.len.ensures, c.loop-self.self.steps.ok.0))
    c.index-step.ensures)
    (subst (λ n. Changes n (meets step) c.loop-self.self.fars c.meet.new.fars) c.conn.ensures
    c.meet.ensures.met)
    (ap (λ n. is_reported_at step (told_at c.loop-self.self.fars n)) (sym c.conn.ensures)
    ∙ sym c.meet.ensures.reported ∙ c.if-meet.true)
    c.giver-self.ensures
    (subst (λ xs. length xs ≤ c.loop-self.self.pending.capacity
    → c.take_up.new.pending.items ≡ xs) c.bytes.ensures c.take_up.ensures.bytes)
    c.take_up.ensures.same_room c.report.ensures

pub returns-then-meet-clause-told : goal.returns-then-meet-clause-told
returns-then-meet-clause-told c =
    let step = c.index-step.result.now in
    still_on c.args.self.now.fars c.loop-self.self.fars c.meet.new.fars c.loop-self.invariant.told
    (still_told c.conn.result (meets step) c.loop-self.self.fars c.meet.new.fars
    (meets_keeps step) c.meet.ensures.met)

pub loop-self-preserved : goal.loop-self-preserved
loop-self-preserved c =
    let step = c.index-step.result.now in
    passes_on c.args.self.now c.loop-self.self _ step c.loop-self.invariant
    (step_at c.loop-self.self.steps.items c.loop-self.self.at step
    (omega (arith, c.loop-self-test.true, c.len.ensures, c.loop-self.self.steps.ok.0))
    c.index-step.ensures)
    (subst (λ n. Changes n (meets step) c.loop-self.self.fars c.meet.new.fars) c.conn.ensures
    c.meet.ensures.met)
    (ap (λ n. is_reported_at step (told_at c.loop-self.self.fars n)) (sym c.conn.ensures)
    ∙ sym c.meet.ensures.reported ∙ c.if-meet.false)
    refl refl refl refl
