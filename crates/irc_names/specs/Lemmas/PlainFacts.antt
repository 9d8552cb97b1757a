-- Plain facts of Booleans, options, numbers and lists that std has no lemma for.
use Rattle.std.proofs.Common.{◌≡◌, ℕ, zero, suc, ◌<◌, ◌≤◌, Bool, cond, true, false, not, ◌&&◌, ◌||◌}
use Rattle.std.proofs.Common.{T, List, [], ◌∷◌}
use Rattle.std.proofs.Common.{map, filter, Option, Some, None, is_some, option_map, if◌then◌else◌}
use Rattle.std.proofs.Common.{nat_eq, length, take, get_or, length-take, refl, ap, sym, ◌∙◌, arith}
use Rattle.std.specs.List.{list_any, list_all}
use Rattle.std.specs.Cmp.{first_so, second_so}
use Rattle.std.proofs.lemmas.Bool.{and_from, eq-eqb, eqb-true}

-- ---- Booleans

pub is_true : (b : Bool) → T b → b ≡ true
is_true true is = refl
is_true false is = absurd is

pub or_first : (a b : Bool) → b ≡ false → (a || b) ≡ true → a ≡ true
or_first true b none either = refl
or_first false b none either = cc

pub and_neither : (a b c : Bool) → ((a && not b) && not c) ≡ (a && not (b || c))
and_neither true true c = refl
and_neither true false c = refl
and_neither false b c = refl

pub and_not : (a b : Bool) → b ≡ false → a ≡ (a && not b)
and_not true b none = ap not (sym none)
and_not false b none = refl

pub or_swapped : (a b c : Bool) → (a || (b || c)) ≡ (b || (a || c))
or_swapped true true c = refl
or_swapped true false c = refl
or_swapped false true c = refl
or_swapped false false c = refl

pub implied : (a b : Bool) → (not a || b) ≡ true → a ≡ true → b ≡ true
implied true b either is = either
implied false b either is = cc is

pub same_either_way : {X : Type 0} (b : Bool) (x : X) → cond b x x ≡ x
same_either_way true x = refl
same_either_way false x = refl

-- ---- numbers

-- a number that passes is none that does not
pub nat_eq-unlike : (p : ℕ → Bool) (refused taken : ℕ) → p refused ≡ false → p taken ≡ true
    → nat_eq taken refused ≡ false
nat_eq-unlike p refused taken out is = by (nat_eq taken refused) refl
  where
    by : (b : Bool) → nat_eq taken refused ≡ b → b ≡ false
    by true same = sym is ∙ ap p (eqb-true taken refused same) ∙ out
    by false other = refl

pub nat_eq-turned : (n m : ℕ) → nat_eq n m ≡ nat_eq m n
nat_eq-turned n m = by (nat_eq n m) refl (nat_eq m n) refl
  where
    by : (p : Bool) → nat_eq n m ≡ p → (q : Bool) → nat_eq m n ≡ q → p ≡ q
    by true here true there = refl
    by true here false there = sym (eq-eqb m n (sym (eqb-true n m here))) ∙ there
    by false here true there = sym here ∙ eq-eqb n m (sym (eqb-true m n there))
    by false here false there = refl

-- ---- options

pub none_if_not_some : {X : Type 0} (o : Option X) → is_some o ≡ false → o ≡ None
none_if_not_some None none = refl
none_if_not_some (Some x) none = cc

pub is_some-map : {X Y : Type 0} (f : X → Y) (o : Option X) → is_some (option_map f o) ≡ is_some o
is_some-map f None = refl
is_some-map f (Some x) = refl

-- ---- lists

pub list_any-map : {X Y : Type 0} (p : Y → Bool) (f : X → Y) (xs : List X)
    → list_any p (map f xs) ≡ list_any (λ x. p (f x)) xs
list_any-map p f [] = refl
list_any-map p f (x ∷ xs) = ap (λ b. p (f x) || b) (list_any-map p f xs)

pub list_all-filter : {X : Type 0} (p q : X → Bool) (xs : List X) → list_all p xs ≡ true
    → list_all p (filter q xs) ≡ true
list_all-filter p q [] all = refl
list_all-filter p q (x ∷ xs) all =
    by (q x) (first_so (p x) (list_all p xs) all)
    (list_all-filter p q xs (second_so (p x) (list_all p xs) all))
  where
    by : (b : Bool) → p x ≡ true → list_all p (filter q xs) ≡ true
        → list_all p (if b then x ∷ filter q xs else filter q xs) ≡ true
    by true first rest = and_from _ _ first rest
    by false first rest = rest

pub list_all-at : {X : Type 0} (p : X → Bool) (xs : List X) (i : ℕ) (d : X) → list_all p xs ≡ true
    → i < length xs → p (get_or xs i d) ≡ true
list_all-at p [] i d all within = absurd (omega arith)
list_all-at p (x ∷ xs) zero d all within = first_so (p x) (list_all p xs) all
list_all-at p (x ∷ xs) (suc i) d all within =
    list_all-at p xs i d (second_so (p x) (list_all p xs) all) (omega arith)

pub length-take_bound : (n : ℕ) (xs : List ℕ) → length (take n xs) ≤ n
length-take_bound n xs = omega (arith, length-take {A = ℕ} n xs)
