use Rattle.std.proofs.Common.{◌≡◌, ℕ, ◌+◌, ◌-◌, ◌<◌, ◌≤◌, ◌∙◌, length, ap, arith, length-drop}
use Rattle.std.proofs.lemmas.List.{take_rest}
use Rattle.irc_turns.proofs.FrontSteps.{no_lines, found_one, taken_further, counted_further}
use Rattle.irc_turns.proofs.FrontSteps.{before_further}
use Rattle.irc_turns.proofs.rest.ended_at.Goals as goal

pub loop-used-init : goal.loop-used-init
loop-used-init c = record {
  within = omega arith;
  taken = c.new-framer.ensures.start;
  count = begun _ _ (no_lines c.args.bytes.now);
  before = λ place below. absurd (none place below);
}
  where
    begun : (ended wanted : ℕ) → ended ≡ 0 → ended + wanted ≡ wanted
    begun ended wanted none = omega arith

    none : (place : ℕ) → place < 0 → ⊥
    none place below = omega arith

pub loop-used-preserved : goal.loop-used-preserved
loop-used-preserved c =
    let used = c.loop-used.used in
    let rest = take_rest c.args.bytes.now used in
    let counted = counted_further _ _ c.args.bytes.now _ used _ _ rest c.take-more.ensures.takes
    c.loop-used.invariant.taken in
    let few = fewer _ _ _ c.loop-used.invariant.count c.if-left-gt0.true in
    record {
      within = reached used _ _ _ (ap length rest ∙ length-drop used c.args.bytes.now)
          c.take-more.ensures.used c.loop-used.invariant.within;
      taken = taken_further _ _ c.args.bytes.now _ used _ _ rest c.take-more.ensures.takes
          c.loop-used.invariant.taken;
      count = fewer_left _ _ _ _ _ _ (found_one c.take-more.result.1) counted
          c.loop-used.invariant.count c.if-left-gt0.true c.less_one-left.ensures;
      before = before_further _ c.args.bytes.now _ used _ _ rest c.loop-used.invariant.before few
          c.take-more.ensures.first c.loop-used.invariant.taken;
    }
  where
    reached : (used more size behind : ℕ) → behind ≡ size - used → more ≤ behind → used ≤ size
        → used + more ≤ size
    reached used more size behind rest within before = omega arith

    fewer : (ended left wanted : ℕ) → ended + left ≡ wanted → 0 < left → ended < wanted
    fewer ended left wanted all some = omega arith

    fewer_left : (now ended found left less wanted : ℕ) → found ≤ 1 → now ≡ ended + found
        → ended + left ≡ wanted → 0 < left → less ≡ left - found → now + less ≡ wanted
    fewer_left now ended found left less wanted one counted all some one_less = omega arith
