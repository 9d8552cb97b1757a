-- What a binary search by the fold tells of rows in folded order.
use Rattle.std.proofs.Common.{◌≡◌, ℕ, ◌<◌, ◌≤◌, suc, zero, Bool, true, false, List, [], ◌∷◌, map}
use Rattle.std.proofs.Common.{take, drop, length, get_or, refl, ◌∙◌, ap, Result, Ok, Err, arith}
use Rattle.std.proofs.Common.{add-one}
use Rattle.std.proofs.lemmas.Bool.{and_parts, and_from}
use Rattle.std.proofs.lemmas.List.Sorted.{searchable_from_sorted}
use Rattle.std.specs.declared.cmp.Ordering.TheVariants.{Greater}
use Rattle.std.specs.Fn.{Called, AlwaysReturns, ReturnsEach}
use Rattle.std.specs.List.{list_all}
use Rattle.std.specs.List.Sorted.{IsSortedBy, IsBinarySearchResult, IsSearchInRange}
use Rattle.std.specs.Ordering.{is_lt, ordering_reverse}
use Rattle.std.specs.Cmp.Lexicographic.{nat_list_cmp_total}
use Rattle.std.specs.FinMap.{is_sorted, slice_cmp-IsAntisymmetric, nat_cmp-IsAntisymmetric}
use denote.Param.Members.{Mut}
use Rattle.irc_names.specs.Tables.{fold_cmp}
use Rattle.irc_tables.specs.FoldedRows.{IsInFoldedOrder, is_before, is_after, IsPlaceOf}
use Rattle.irc_tables.specs.Lemmas.OrderedEntries.{turned}

all_of_front : {X : Type 0} (p : X → Bool) (xs : List X) (i : ℕ) → ((k : ℕ) (d : X) → k < i
    → p (get_or xs k d) ≡ true) → i ≤ length xs → list_all p (take i xs) ≡ true
all_of_front p xs zero each le = refl
all_of_front p [] (suc i) each le = refl
all_of_front p (x ∷ xs) (suc i) each le =
    and_from _ _ (each 0 x (omega arith))
    (all_of_front p xs i (λ k d h. each (suc k) d (omega arith)) (omega arith))

all_of_back : {X : Type 0} (p : X → Bool) (xs : List X) (i : ℕ) → ((k : ℕ) (d : X) → i ≤ k
    → k < length xs → p (get_or xs k d) ≡ true) → list_all p (drop i xs) ≡ true
all_of_back p [] zero each = refl
all_of_back p (x ∷ xs) zero each =
    and_from _ _ (each 0 x (omega arith) (omega arith))
    (all_of_back p xs zero (λ k d from to. each (suc k) d (omega arith) (omega arith)))
all_of_back p [] (suc i) each = refl
all_of_back p (x ∷ xs) (suc i) each =
    all_of_back p xs i (λ k d from to. each (suc k) d (omega arith) (omega arith))

abbrev stands_before : {X V : Type 0} → (X → List ℕ × V) → X → X → Bool
stands_before entry a b = is_lt (fold_cmp (entry a).0 (entry b).0)

next_not_before : {X V : Type 0} (entry : X → List ℕ × V) (rows : List X)
    → is_sorted fold_cmp (map entry rows) ≡ true → (k : ℕ) (d : X) → suc k < length rows
    → stands_before entry (get_or rows (suc k) d) (get_or rows k d) ≡ false
next_not_before entry [] sorted k d lt = absurd (omega arith)
next_not_before entry (x ∷ []) sorted k d lt = absurd (omega arith)
next_not_before entry (x ∷ y ∷ rows) sorted zero d lt =
    ap is_lt (turned nat_list_cmp_total (entry x).0 (entry y).0
    (and_parts _ _ (and_parts _ _ sorted).0).0)
next_not_before entry (x ∷ y ∷ rows) sorted (suc k) d lt =
    next_not_before entry (y ∷ rows) (and_parts _ _ sorted).1 k d (omega arith)

sorted_by_fold : {X V : Type 0} (entry : X → List ℕ × V) (rows : List X)
    → IsInFoldedOrder entry rows → IsSortedBy (stands_before entry) rows
unfolding IsInFoldedOrder
sorted_by_fold entry rows sorted =
    λ k d from lt. rw add-one (next_not_before entry rows sorted k d (omega arith))

greater_is : (a b : List ℕ) → fold_cmp a b ≡ Greater → is_lt (fold_cmp b a) ≡ true
greater_is a b h = ap is_lt (nat_list_cmp_total.antisymm b a ∙ ap ordering_reverse h)

pub place_found : {X V : Type 0} (entry : X → List ℕ × V) (rows : List X) (fold : List ℕ)
    (result : Result ℕ ℕ) → IsInFoldedOrder entry rows → IsSearchInRange result (length rows)
    → IsBinarySearchResult (λ row. fold_cmp (entry row).0 fold) rows result
    → IsPlaceOf entry rows fold result
place_found entry rows fold (Ok i) sorted within found = record {
  within = within;
  named = λ d. slice_cmp-IsAntisymmetric nat_cmp-IsAntisymmetric (entry (get_or rows i d)).0 fold
      (found d);
}
place_found entry rows fold (Err i) sorted within found =
    let parts = found (searchable_from_sorted nat_list_cmp_total (λ row. (entry row).0) rows fold
    (sorted_by_fold entry rows sorted)) in
    record {
      within = within;
      before = all_of_front (is_before entry fold) rows i
          (λ k d lt. ap is_lt (parts.0 k d (omega arith) lt)) within;
      after = all_of_back (is_after entry fold) rows i
          (λ k d from to. greater_is (entry (get_or rows k d)).0 fold (parts.1 k d from to));
    }

-- what each call of a closure answers, where each call leaves it as the next one wants it
pub answers_kept : {F X R : Type 0} (g : Mut F X R) (P : X → R → Type 0) (I : F → Type 0)
    → ((f : F) (a : X) (r : R) (f' : F) → I f → Called g f a r f' → P a r × I f') → (f : F) → I f
    → AlwaysReturns g P f
answers_kept {F} {X} {R} g P I step f kept = record { at = λ xs. each xs f kept }
  where
    each : (xs : List X) (f : F) → I f → ReturnsEach g P f xs
    each [] f kept = tt
    each (a ∷ xs) f kept =
        λ r f' called. let told = step f a r f' kept called in (told.0, each xs f' told.1)
