-- Lists of entries in the order of their keys, cut in two: what is put in at the cut, and what is
-- taken out there.
use Rattle.std.proofs.Common.{◌≡◌, Bool, true, not, ◌&&◌, cond, List, [], ◌∷◌, ◌++◌, refl, sym, ◌∙◌}
use Rattle.std.proofs.Common.{ap, Some, None}
use Rattle.std.proofs.lemmas.Bool.{and_parts, and_from}
use Rattle.std.specs.declared.cmp.Ordering.{Ordering}
use Rattle.std.specs.declared.cmp.Ordering.TheVariants.{Less, Equal, Greater}
use Rattle.std.specs.List.{list_all}
use Rattle.std.specs.Ordering.{is_lt, is_eq, eq_by_cmp, ordering_reverse}
use Rattle.std.specs.Cmp.{IsTotalOrder, tied_itself}
use Rattle.std.specs.FinMap.Entries.{put, by_order, find, where_key, below_all, is_sorted}

pub less_is : (r : Ordering) → is_lt r ≡ true → r ≡ Less
less_is Less h = refl
less_is Equal h = cc
less_is Greater h = cc

pub turned : {K : Type 0} {R : K → K → Ordering} → IsTotalOrder R → (x y : K) → is_lt (R x y) ≡ true
    → R y x ≡ Greater
turned {R = R} o x y h = o.antisymm y x ∙ ap ordering_reverse (less_is (R x y) h)

module _ {K X : Type 0} {R : K → K → Ordering} (o : IsTotalOrder R) where
  -- the keys of all entries are below k, or above it
  abbrev pub are_below : K → List (K × X) → Bool
  are_below k = list_all (λ e. is_lt (R e.0 k))

  abbrev pub are_above : K → List (K × X) → Bool
  are_above k = list_all (λ e. is_lt (R k e.0))

  pub above-is : (k : K) (es : List (K × X)) → below_all R k es ≡ are_above k es
  above-is k [] = refl
  above-is k (e ∷ es) = ap (λ b. is_lt (R k e.0) && b) (above-is k es)

  -- an entry goes between those below it and those above it
  pub put-between : (k : K) (v : X) (front back : List (K × X)) → are_below k front ≡ true
      → are_above k back ≡ true → put R k v (front ++ back) ≡ front ++ (k, v) ∷ back
  put-between k v [] [] below above = refl
  put-between k v [] (e ∷ back) below above =
      ap (λ r. by_order r ((k, v) ∷ e ∷ back) ((e.0, v) ∷ back) (e ∷ put R k v back))
      (less_is (R k e.0) (and_parts _ _ above).0)
  put-between k v (e ∷ front) back below above =
      let parts = and_parts _ _ below in
      ap (λ r. by_order r ((k, v) ∷ e ∷ (front ++ back)) ((e.0, v) ∷ (front ++ back))
      (e ∷ put R k v (front ++ back))) (turned o e.0 k parts.0)
      ∙ ap (λ es. e ∷ es) (put-between k v front back parts.1 above)

  -- an entry takes the place of the one with its key
  pub put-there : (k : K) (v w : X) (front back : List (K × X)) → are_below k front ≡ true
      → put R k v (front ++ (k, w) ∷ back) ≡ front ++ (k, v) ∷ back
  put-there k v w [] back below =
      ap (λ r. by_order r ((k, v) ∷ (k, w) ∷ back) ((k, v) ∷ back) ((k, w) ∷ put R k v back))
      (tied_itself o k)
  put-there k v w (e ∷ front) back below =
      let parts = and_parts _ _ below in
      ap (λ r. by_order r ((k, v) ∷ e ∷ (front ++ (k, w) ∷ back)) ((e.0, v) ∷ (front ++ (k, w)
      ∷ back)) (e ∷ put R k v (front ++ (k, w) ∷ back))) (turned o e.0 k parts.0)
      ∙ ap (λ es. e ∷ es) (put-there k v w front back parts.1)

  pub find-above : (k : K) (back : List (K × X)) → are_above k back ≡ true → find R k back ≡ None
  find-above k [] above = refl
  find-above k (e ∷ back) above =
      let parts = and_parts _ _ above in
      ap (λ r. cond (is_eq r) (Some e.1) (find R k back)) (less_is (R k e.0) parts.0)
      ∙ find-above k back parts.1

  pub find-past : (k : K) (front back : List (K × X)) → are_below k front ≡ true
      → find R k (front ++ back) ≡ find R k back
  find-past k [] back below = refl
  find-past k (e ∷ front) back below =
      let parts = and_parts _ _ below in
      ap (λ r. cond (is_eq r) (Some e.1) (find R k (front ++ back))) (turned o e.0 k parts.0)
      ∙ find-past k front back parts.1

  pub find-there : (k : K) (v : X) (front back : List (K × X)) → are_below k front ≡ true
      → find R k (front ++ (k, v) ∷ back) ≡ Some v
  find-there k v front back below = find-past k front ((k, v) ∷ back) below
      ∙ ap (λ r. cond (is_eq r) (Some v) (find R k back)) (tied_itself o k)

  -- the entries with another key than k
  abbrev pub others : K → List (K × X) → List (K × X)
  others k = where_key R (λ x. not (eq_by_cmp R k x))

  others-above : (k : K) (back : List (K × X)) → are_above k back ≡ true → others k back ≡ back
  others-above k [] above = refl
  others-above k (e ∷ back) above =
      let parts = and_parts _ _ above in
      ap (λ r. cond (not (is_eq r)) (e ∷ others k back) (others k back)) (less_is (R k e.0) parts.0)
      ∙ ap (λ es. e ∷ es) (others-above k back parts.1)

  pub others-between : (k : K) (v : X) (front back : List (K × X)) → are_below k front ≡ true
      → are_above k back ≡ true → others k (front ++ (k, v) ∷ back) ≡ front ++ back
  others-between k v [] back below above =
      ap (λ r. cond (not (is_eq r)) ((k, v) ∷ others k back) (others k back)) (tied_itself o k)
      ∙ others-above k back above
  others-between k v (e ∷ front) back below above =
      let parts = and_parts _ _ below in
      ap (λ r. cond (not (is_eq r)) (e ∷ others k (front ++ (k, v) ∷ back))
      (others k (front ++ (k, v) ∷ back))) (turned o e.0 k parts.0)
      ∙ ap (λ es. e ∷ es) (others-between k v front back parts.1 above)

  -- in a list in order the entries before one are below it, and those after it above
  first_below : (x k : K) (v : X) (front back : List (K × X))
      → below_all R x (front ++ (k, v) ∷ back) ≡ true → is_lt (R x k) ≡ true
  first_below x k v [] back below = (and_parts _ _ below).0
  first_below x k v (e ∷ front) back below = first_below x k v front back (and_parts _ _ below).1

  pub sorted-below : (k : K) (v : X) (front back : List (K × X))
      → is_sorted R (front ++ (k, v) ∷ back) ≡ true → are_below k front ≡ true
  sorted-below k v [] back sorted = refl
  sorted-below k v (e ∷ front) back sorted =
      let parts = and_parts _ _ sorted in
      and_from _ _ (first_below e.0 k v front back parts.0) (sorted-below k v front back parts.1)

  pub sorted-above : (k : K) (v : X) (front back : List (K × X))
      → is_sorted R (front ++ (k, v) ∷ back) ≡ true → are_above k back ≡ true
  sorted-above k v [] back sorted = sym (above-is k back) ∙ (and_parts _ _ sorted).0
  sorted-above k v (e ∷ front) back sorted = sorted-above k v front back (and_parts _ _ sorted).1
