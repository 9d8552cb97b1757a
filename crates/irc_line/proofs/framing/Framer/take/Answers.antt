use Rattle.std.proofs.Common.{ℕ, ◌∙◌, ap, arith, length-take, length-drop}
use Rattle.std.proofs.lemmas.List.{take_rest}
use Rattle.arrayvec.specs.ArrayVec.{ArrayVec}
use Rattle.irc_line.specs.Lines.{Begun}
use Rattle.irc_line.proofs.Streams.{nothing_left, nothing_left_real, line_is_line}
use Rattle.irc_line.proofs.Runs.{both_take_line, both_take_none, is_ready, below_both}
use Rattle.irc_line.proofs.Runs.{taken_ends_no_line}
use Rattle.irc_line.proofs.framing.Framer.take.Goals as goal

pub invariant_of-self : goal.invariant_of-self
invariant_of-self c =
    nothing_left_real _ c.take.new.self.items
    (is_ready _ _ _ _ c.take_run-more.result.1 c.self.view_is c.if-ended.true
    c.take_run-more.ensures.takes) c.take.ensures.after

pub returns-then-ended-clause-takes : goal.returns-then-ended-clause-takes
returns-then-ended-clause-takes c =
    both_take_line _ _ _ _ _ _ _ _ _ c.take_run-more.result.1 c.if-ended.true
    (take_rest c.args.piece.now c.loop-used.used) c.loop-used.invariant.takes
    c.take_run-more.ensures.takes (ap (λ (line : ArrayVec ℕ). line.items) c.take.ensures.value
    ∙ ap (λ (f : Begun). f.kept) c.self.view_is)
    (nothing_left _ c.take.new.self.items
    (is_ready _ _ _ _ c.take_run-more.result.1 c.self.view_is c.if-ended.true
    c.take_run-more.ensures.takes) c.take.ensures.after)

pub returns-then-ended-clause-line : goal.returns-then-ended-clause-line
returns-then-ended-clause-line c =
    rw c.take.ensures.value (line_is_line _ c.self.inside.kept.items c.self.invariant
    (is_ready _ _ _ _ c.take_run-more.result.1 c.self.view_is c.if-ended.true
    c.take_run-more.ensures.takes))

pub returns-then-ended-clause-first : goal.returns-then-ended-clause-first
returns-then-ended-clause-first c = λ k below.
    below_both c.args.self.now c.loop-used.self c.args.piece.now _ c.loop-used.used
    c.take_run-more.result.0
    (take_rest c.args.piece.now c.loop-used.used) c.loop-used.invariant.takes
    c.take_run-more.ensures.first k below

pub loop-used-preserved : goal.loop-used-preserved
loop-used-preserved c = record {
  within = omega (arith, length-take {A = ℕ}, length-drop {A = ℕ});
  takes = both_take_none _ _ _ _ _ _ _ c.take_run-more.result.1 c.if-ended.false
      (take_rest c.args.piece.now c.loop-used.used)
      c.loop-used.invariant.takes c.take_run-more.ensures.takes;
}

pub returns-clause-first : goal.returns-clause-first
returns-clause-first c = λ k below. taken_ends_no_line c.args.self.now c.loop-used.self
    c.args.piece.now c.loop-used.used k c.loop-used.invariant.takes (omega arith)
