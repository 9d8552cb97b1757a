-- Numbers are one by their order just where they are equal.
use Rattle.std.proofs.Common.{◌≡◌, ℕ, Bool, true, false, cond, nat_eq, refl, sym, ◌∙◌, ap}
use Rattle.std.specs.Ordering.{nat_cmp, is_eq}
use Rattle.std.specs.Cmp.{nat_cmp_total, eq_by_cmp_equiv, Equal-is}
use Rattle.std.specs.FinMap.{nat_cmp-IsAntisymmetric}
use Rattle.std.proofs.lemmas.Bool.{eq-eqb, eqb-true}

by_order : (a b : ℕ) → is_eq (nat_cmp a b) ≡ nat_eq a b
by_order a b = by (is_eq (nat_cmp a b)) refl (nat_eq a b) refl
  where
    by : (s : Bool) → is_eq (nat_cmp a b) ≡ s → (t : Bool) → nat_eq a b ≡ t → s ≡ t
    by true e true f = refl
    by false e false f = refl
    by true e false f =
        sym (eq-eqb a b (nat_cmp-IsAntisymmetric a b ((Equal-is (nat_cmp a b)).0 e))) ∙ f
    by false e true f =
        sym e ∙ ap (λ n. is_eq (nat_cmp n b)) (eqb-true a b f)
        ∙ (eq_by_cmp_equiv nat_cmp_total).refl b

pub set_at : {X : Type 0} (f : ℕ → X) (now : X) (link q : ℕ)
    → cond (is_eq (nat_cmp link q)) now (f q) ≡ cond (nat_eq link q) now (f q)
set_at f now link q = ap (λ b. cond b now (f q)) (by_order link q)
