-- Lists at a place, and lists that are empty.
use Rattle.std.proofs.Common.{◌≡◌, ℕ, zero, suc, false, nat_eq, Some, List, [], ◌∷◌}
use Rattle.std.proofs.Common.{◌++◌, refl}
use Rattle.std.specs.List.{slice_get, slice_set, AllByRecursion}
use Rattle.irc_pipes.specs.Lemmas.PutPipes.{one_before}

pub set_here : {A : Type 0} (xs : List A) (n : ℕ) (old new : A) → slice_get xs n ≡ Some old
    → slice_get (slice_set xs n new) n ≡ Some new
set_here [] n old new is = cc is
set_here (x ∷ xs) zero old new is = refl
set_here (x ∷ xs) (suc n) old new is = set_here xs n old new is

pub set_elsewhere : {A : Type 0} (xs : List A) (n x : ℕ) (new : A) → nat_eq x n ≡ false
    → slice_get (slice_set xs n new) x ≡ slice_get xs x
set_elsewhere [] n x new two = refl
set_elsewhere (first ∷ xs) zero zero new two = cc two
set_elsewhere (first ∷ xs) zero (suc x) new two = refl
set_elsewhere (first ∷ xs) (suc n) zero new two = refl
set_elsewhere (first ∷ xs) (suc n) (suc x) new two = set_elsewhere xs n x new (one_before x n two)

pub front_none : {A : Type 0} (xs ys : List A) → xs ++ ys ≡ [] → xs ≡ []
front_none [] ys none = refl
front_none (x ∷ xs) ys none = cc none

pub rest_none : {A : Type 0} (xs ys : List A) → xs ++ ys ≡ [] → ys ≡ []
rest_none [] ys none = none
rest_none (x ∷ xs) ys none = cc none

pub all_front : {A : Type 0} (P : A → Type 0) (xs ys : List A) → AllByRecursion P (xs ++ ys)
    → AllByRecursion P xs
all_front P [] ys all = tt
all_front P (x ∷ xs) ys all = (all.0, all_front P xs ys all.1)

pub all_rest : {A : Type 0} (P : A → Type 0) (xs ys : List A) → AllByRecursion P (xs ++ ys)
    → AllByRecursion P ys
all_rest P [] ys all = all
all_rest P (x ∷ xs) ys all = all_rest P xs ys all.1
