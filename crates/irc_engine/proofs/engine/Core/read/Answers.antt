use Rattle.std.proofs.Common.{refl, sym, ◌∙◌}
use Rattle.irc_engine.specs.Running.{not_open, read_once}
use Rattle.irc_engine.proofs.RunLaws.{on_ok, ran_none, ran_after, ran_read, ran_cut, ran_fed}
use Rattle.irc_engine.proofs.RunLaws.{ran_ended, front_after}
use Rattle.irc_engine.proofs.KnowingLaws.{at_one_lost}
use Rattle.irc_engine.proofs.MarkLaws.{marks_ended}
use Rattle.irc_engine.proofs.engine.Core.read.Goals as goal

pub returns-then-not-is_open-clause-done : goal.returns-then-not-is_open-clause-done
returns-then-not-is_open-clause-done g c =
    not_open (sym c.is_open.ensures ∙ c.if-not-is_open.true) (ran_none _ _)

pub take_lines-requires-clause-at_one : goal.take_lines-requires-clause-at_one
take_lines-requires-clause-at_one g c = c.requires

pub tell_losses-requires : goal.tell_losses-requires
tell_losses-requires g c =
    at_one_lost _ _ _ (record c.args.self.now.connections { wire = c.read.new.self })
    c.lose.new.self c.in_ok-lose-in-None.ensures
    (sym c.is_open.ensures ∙ c.if-not-is_open.false) c.requires

pub returns-in-Some-clause-done : goal.returns-in-Some-clause-done
returns-in-Some-clause-done g c =
    on_ok c.take_lines.result _ _
    (λ ran. read_once _ _ _ (sym c.is_open.ensures ∙ c.if-not-is_open.false) c.deref_mut.ensures.len
    (ran_fed _ _ _ _ _ _ _ _ _ _ (sym c.came.ensures ∙ c.in-Some.is)
    (front_after c.read.result c.read.new.buffer _ _ _ _ (sym c.came.ensures
    ∙ c.in-Some.is) c.read.ensures.within c.deref_mut.ensures.len c.read.auto.buffer)
    (ran_read _ _ _ c.args.self.now.connections
    (record c.args.self.now.connections { wire = c.read.new.self }) _ _ _ _ _ _ _
    (sym c.came.ensures ∙ c.in-Some.is) c.read.ensures.account refl refl refl) ran))
    c.take_lines.ensures.ran

pub returns-in_ok-lose-in-None-clause-done : goal.returns-in_ok-lose-in-None-clause-done
returns-in_ok-lose-in-None-clause-done g c =
    on_ok c.tell_losses.result _ _ (λ ran. read_once _ _ _
    (sym c.is_open.ensures ∙ c.if-not-is_open.false) c.deref_mut.ensures.len
    (ran_ended _ _ _ _ _ _ _ (sym c.came.ensures ∙ c.in-None.is)
    (ran_after _ _ _ _ _ _ _
    (ran_cut _ _ _ _ _ c.args.self.now.connections (record c.args.self.now.connections
    { wire = c.read.new.self }) c.lose.new.self _ _ _ _ (sym c.came.ensures ∙ c.in-None.is)
    (sym c.is_open.ensures ∙ c.if-not-is_open.false) c.read.ensures.account refl refl
    c.in_ok-lose-in-None.ensures refl) ran)))
    c.tell_losses.ensures.ran

pub returns-in_ok-lose-in-None-clause-told : goal.returns-in_ok-lose-in-None-clause-told
returns-in_ok-lose-in-None-clause-told g c =
    on_ok c.tell_losses.result _ _ (λ told before. told) c.tell_losses.ensures.told

pub returns-in_ok-lose-in-None-clause-marks : goal.returns-in_ok-lose-in-None-clause-marks
returns-in_ok-lose-in-None-clause-marks g c =
    on_ok c.tell_losses.result _ _ (λ marks q pending is. marks q pending
    (marks_ended _ c.args.self.now.connections c.lose.new.self (record c.args.self.now.connections
    { wire = c.read.new.self }) (λ p two. refl) (λ p. refl)
    c.in_ok-lose-in-None.ensures.table c.in_ok-lose-in-None.ensures.waiting q pending is))
    c.tell_losses.ensures.marks
