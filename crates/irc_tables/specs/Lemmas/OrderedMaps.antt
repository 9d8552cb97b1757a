-- The code's map in the order of its keys, as a finite map: what it answers is what that has, and
-- so is what a change leaves.
use Rattle.std.proofs.Common.{◌≡◌, cond, Some, None, List, [], ◌∷◌, refl, sym, ◌∙◌, ap, Option}
use Rattle.std.specs.declared.cmp.Ordering.{Ordering}
use Rattle.std.specs.Ordering.{eq_by_cmp, is_eq}
use Rattle.std.specs.Cmp.{IsTotalOrder, eq_by_cmp_equiv}
use Rattle.std.specs.Map.{lookup}
use Rattle.std.specs.BTreeMap.{BTreeMap, UpdatesBy, is_at, get as in_map}
use Rattle.std.specs.FinMap.{FinMap, IsAntisymmetric, get, insert, remove, find, from_entries}
use Rattle.std.specs.FinMap.{get-from_entries, get-insert, get-remove, same_map}

module _ {K X : Type 0} {R : K → K → Ordering} (total : IsTotalOrder R)
    (apart : IsAntisymmetric R) where
  mapped : BTreeMap K X → FinMap R X
  mapped m = from_entries m.entries

  looked_up : (q : K) (es : List (K × X)) → find R q es ≡ lookup (is_at (R q)) es
  looked_up q [] = refl
  looked_up q (e ∷ es) = ap (cond (is_eq (R q e.0)) (Some e.1)) (looked_up q es)

  pub get-mapped : (m : BTreeMap K X) (q : K)
      → get {R = R} (from_entries m.entries) q ≡ in_map R m q
  get-mapped m q = get-from_entries total m.entries q ∙ looked_up q m.entries

  turned : (k q : K) (x y : Option X) → cond (is_at (R k) q) x y ≡ cond (eq_by_cmp R q k) x y
  turned k q x y = ap (λ b. cond b x y) ((eq_by_cmp_equiv total).symm k q)

  pub put-mapped : (old new : BTreeMap K X) (k : K) (x : X) → UpdatesBy R (R k) old new (Some x)
      → from_entries {R = R} new.entries ≡ insert (from_entries old.entries) k x
  put-mapped old new k x updates = same_map total apart _ _ (λ q.
      get-mapped new q ∙ updates.0 q ∙ turned k q _ _
      ∙ ap (cond (eq_by_cmp R q k) (Some x)) (sym (get-mapped old q))
      ∙ sym (get-insert total (from_entries old.entries) k x q))

  pub taken-mapped : (old new : BTreeMap K X) (k : K) → UpdatesBy R (R k) old new None
      → from_entries {R = R} new.entries ≡ remove (from_entries old.entries) k
  taken-mapped old new k updates = same_map total apart _ _ (λ q.
      get-mapped new q ∙ updates.0 q ∙ turned k q _ _
      ∙ ap (cond (eq_by_cmp R q k) None) (sym (get-mapped old q))
      ∙ sym (get-remove total (from_entries old.entries) k q))
