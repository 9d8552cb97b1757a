-- Numbers that are sorted and then freed of doubles are the set of them, in order.
use Rattle.std.proofs.Common.{◌≡◌, ℕ, Bool, true, false, cond, ◌||◌, Option, Some, None, List, []}
use Rattle.std.proofs.Common.{◌∷◌, map, refl, sym, ◌∙◌, ap, eqb}
use Rattle.std.proofs.lemmas.Bool.{and_from}
use Rattle.std.proofs.lemmas.List.Kept.{IsStrictlySortedBy-dedup, Contains-dedup_nat}
use Rattle.std.proofs.lemmas.List.Kept.{Contains-from_dedup}
use Rattle.std.proofs.lemmas.List.Sorted.{list_any-IsPermutation}
use Rattle.std.proofs.lemmas.Map.Views.{list_any-from_Contains, Contains-from_any}
use Rattle.std.proofs.lemmas.Bool.Decides.{Decides-eqb}
use Rattle.std.specs.declared.cmp.Ordering.TheVariants.{Less}
use Rattle.std.specs.List.{list_any, dedup, AllByRecursion}
use Rattle.std.specs.List.Sorted.{IsPermutation, IsSorted, IsStrictlySortedBy}
use Rattle.std.specs.Ordering.{is_lt, nat_cmp, eq_by_cmp}
use Rattle.std.specs.Cmp.{Equal-is, eq_by_cmp_equiv, nat_cmp_total, both_ways}
use Rattle.std.specs.FinMap.{FinMap, find, from_entries, from_sorted, keys, same_map}
use Rattle.std.specs.FinMap.{get-from_entries, get-from_sorted, entries-from_sorted, is_sorted}
use Rattle.std.specs.FinMap.{nat_cmp-IsAntisymmetric}
use Rattle.std.specs.FinMap.Entries.{below_all}
use Rattle.irc_routes.specs.Known.{link_key}
use Rattle.irc_routes.specs.Lemmas.TableRows.{held}

marks_below : (x : ℕ) (xs : List ℕ) → AllByRecursion (λ y. nat_cmp x y ≡ Less) xs
    → below_all nat_cmp x (map link_key xs) ≡ true
marks_below x [] less = refl
marks_below x (y ∷ xs) less = and_from _ _ (ap is_lt less.0) (marks_below x xs less.1)

marks_sorted : (xs : List ℕ) → IsStrictlySortedBy nat_cmp xs
    → is_sorted nat_cmp (map link_key xs) ≡ true
unfolding IsStrictlySortedBy
marks_sorted [] sorted = refl
marks_sorted (x ∷ xs) sorted = and_from _ _ (marks_below x xs sorted.0) (marks_sorted xs sorted.1)

numbers_marked : (xs : List ℕ) → map (λ (e : ℕ × Unit {0}). e.0) (map link_key xs) ≡ xs
numbers_marked [] = refl
numbers_marked (x ∷ xs) = ap (λ ys. x ∷ ys) (numbers_marked xs)

abbrev set_of : List ℕ → FinMap nat_cmp (Unit {0})
set_of xs = from_sorted {R = nat_cmp} (map link_key xs)

keys_of_sorted : (xs : List ℕ) → IsStrictlySortedBy nat_cmp xs → keys (set_of xs) ≡ xs
keys_of_sorted xs sorted = ap (map (λ (e : ℕ × Unit {0}). e.0))
    (entries-from_sorted nat_cmp (map link_key xs) (held _ (marks_sorted xs sorted)))
    ∙ numbers_marked xs

one_number : (x y : ℕ) → eq_by_cmp nat_cmp x y ≡ true → x ≡ y
one_number x y same = nat_cmp-IsAntisymmetric x y ((Equal-is (nat_cmp x y)).0 same)

ties : (x y : ℕ) → eqb x y ≡ eq_by_cmp nat_cmp x y
ties x y = both_ways _ _
    (λ same. ap (λ z. eq_by_cmp nat_cmp x z) (sym ((Decides-eqb x y).0 same))
    ∙ (eq_by_cmp_equiv nat_cmp_total).refl x)
    (λ same. (Decides-eqb x y).1 (one_number x y same))

any_kept : (xs : List ℕ) (q : ℕ)
    → list_any (eq_by_cmp nat_cmp q) (dedup eqb xs) ≡ list_any (eq_by_cmp nat_cmp q) xs
any_kept xs q = both_ways _ _
    (λ any. list_any-from_Contains (eq_by_cmp_equiv nat_cmp_total) q xs
    (Contains-from_dedup eqb xs q (Contains-from_any one_number q (dedup eqb xs) any)))
    (λ any. list_any-from_Contains (eq_by_cmp_equiv nat_cmp_total) q (dedup eqb xs)
    (Contains-dedup_nat xs q (Contains-from_any one_number q xs any)))

abbrev mark_if : Bool → Option (Unit {0})
mark_if b = cond b (Some tt) None

marked : (b c : Bool) → cond b (mark_if true) (mark_if c) ≡ mark_if (b || c)
marked true c = refl
marked false c = refl

find_marked : (xs : List ℕ) (q : ℕ)
    → find nat_cmp q (map link_key xs) ≡ mark_if (list_any (eq_by_cmp nat_cmp q) xs)
find_marked [] q = refl
find_marked (x ∷ xs) q =
    ap (λ (o : Option (Unit {0})). cond (eq_by_cmp nat_cmp q x) (mark_if true) o) (find_marked xs q)
    ∙ marked (eq_by_cmp nat_cmp q x) (list_any (eq_by_cmp nat_cmp q) xs)

pub sorted_once : (all sorted : List ℕ) → IsPermutation all sorted → IsSorted nat_cmp sorted
    → dedup eqb sorted ≡ keys (from_entries {R = nat_cmp} (map link_key all))
sorted_once all sorted moved in_order =
    let xs = dedup eqb sorted in
    let strictly : IsStrictlySortedBy nat_cmp xs =
    IsStrictlySortedBy-dedup nat_cmp_total ties sorted in_order in
    sym (keys_of_sorted xs strictly)
    ∙ ap keys (same_map nat_cmp_total nat_cmp-IsAntisymmetric (set_of xs)
    (from_entries (map link_key all)) (λ q.
    get-from_sorted nat_cmp (map link_key xs) q (held _ (marks_sorted xs strictly))
    ∙ find_marked xs q
    ∙ ap mark_if (any_kept sorted q
    ∙ sym (list_any-IsPermutation (eq_by_cmp nat_cmp q) all sorted moved))
    ∙ sym (find_marked all q)
    ∙ sym (get-from_entries nat_cmp_total (map link_key all) q)))
