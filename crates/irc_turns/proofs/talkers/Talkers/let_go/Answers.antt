use Rattle.std.proofs.Common.{◌≡◌, ◌<◌, ◌∙◌, ℕ, false, sym, ap, get_or, length, subst, arith}
use Rattle.std.proofs.Common.{below_more}
use Rattle.std.specs.List.{slice_get}
use Rattle.irc_turns.specs.Numbered.{NumberedTalkers, is_due, nobody, one_more}
use Rattle.irc_turns.proofs.LettingGo.{before_place, due_at, still_waits, same_due, same_holding}
use Rattle.irc_turns.proofs.talkers.Talkers.let_go.Goals as goal

pub loop-place-init : goal.loop-place-init
loop-place-init c = record {
  one_by_one = nobody;
  all = λ k below d. absurd (none k below);
  waits = λ held not_due. not_due;
}
  where
    none : (k : ℕ) → k < 0 → ⊥
    none k below = omega arith

pub loop-place-preserved-then-is_due : goal.loop-place-preserved-then-is_due
loop-place-preserved-then-is_due c =
    let between = c.loop-place.self in
    let place = c.loop-place.place in
    let new = c.let_one_go.new.self in
    let held = c.let_one_go.ensures.held in
    let within = subst (λ (s : NumberedTalkers). place < length s.holding) c.self.view_is
    (subst (λ n. place < n) c.len.ensures c.loop-place-test.true) in
    let here = ap (λ (s : NumberedTalkers). slice_get s.holding place) (sym c.self.view_is)
    ∙ c.at-held.ensures in
    record {
      one_by_one = one_more between new place held c.loop-place.invariant.one_by_one record {
        there = c.let_one_go.ensures.there;
        due =
            same_due c.args.now between _ held c.at-held.result c.let_one_go.ensures.there here
            ∙ sym c.is_due.ensures ∙ c.if-is_due.true;
        left = c.let_one_go.ensures.left;
      };
      all = λ k below d.
          ap (λ xs. is_due c.args.now c.args.self.now (get_or xs k d))
          (same_holding place held between new c.let_one_go.ensures.left)
          ∙ ap (is_due c.args.now c.args.self.now)
          (before_place between.holding place k held d below within)
          ∙ c.loop-place.invariant.all k below d;
      waits = λ other not_due.
          c.loop-place.invariant.waits other
          (still_waits c.args.now place held other between new c.let_one_go.ensures.left not_due);
    }

pub loop-place-preserved : goal.loop-place-preserved
loop-place-preserved c =
    let between = c.loop-place.self in
    let place = c.loop-place.place in
    let held = c.at-held.result in
    let within = subst (λ (s : NumberedTalkers). place < length s.holding) c.self.view_is
    (subst (λ n. place < n) c.len.ensures c.loop-place-test.true) in
    let here = ap (λ (s : NumberedTalkers). slice_get s.holding place) (sym c.self.view_is)
    ∙ c.at-held.ensures in
    record {
      one_by_one = c.loop-place.invariant.one_by_one;
      all = below_more (λ k. (d : _) → is_due c.args.now c.args.self.now
          (get_or between.holding k d) ≡ false) place c.loop-place.invariant.all
          (λ d. due_at c.args.now c.args.self.now between.holding place held d within here
          ∙ c.loop-place.invariant.waits held (sym c.is_due.ensures ∙ c.if-is_due.false));
      waits = c.loop-place.invariant.waits;
    }
