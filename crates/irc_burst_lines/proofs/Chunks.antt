-- A list in lines of so many: the first, and those behind it.
use Rattle.std.proofs.Common.{◌≡◌, ℕ, ◌+◌, ◌-◌, ◌/◌, ◌%◌, ◌<◌, ◌≤◌, ◌⊎◌, inl, inr, min, suc, List}
use Rattle.std.proofs.Common.{[], ◌∷◌, length, map, take, drop, sym, ◌∙◌, ap, arith, length-drop}
use Rattle.std.proofs.Math.Nat.{add-div_left, add-mod_left, div-eq_of_lt, mod-eq_of_lt, zero-div}
use Rattle.std.proofs.Math.Nat.{zero-mod}
use Rattle.std.proofs.lemmas.Bool.{cases_lt}
use Rattle.std.specs.Int.{div_ceil}
use Rattle.std.specs.Simd.{first_chunks}
use Rattle.irc_merge.specs.Bursts.{in_lines}

one_more : (a b : ℕ) → (a + 1) + b ≡ suc (a + b)
one_more a b = omega arith

ceil_more : (n m : ℕ) → 0 < n → div_ceil (n + m) n ≡ suc (div_ceil m n)
ceil_more n m some =
    ap (λ d. d + min 1 ((n + m) % n)) (add-div_left m some)
    ∙ ap (λ r. (m / n + 1) + min 1 r) (add-mod_left n m)
    ∙ one_more (m / n) (min 1 (m % n))

ceil_zero : (m : ℕ) → div_ceil 0 m ≡ 0
ceil_zero m = ap (λ d. d + min 1 (0 % m)) (zero-div m) ∙ ap (λ r. 0 + min 1 r) (zero-mod m)

ceil_one : (n k : ℕ) → suc k < n → div_ceil (suc k) n ≡ 1
ceil_one n k below =
    ap (λ d. d + min 1 (suc k % n)) (div-eq_of_lt below)
    ∙ ap (λ r. 0 + min 1 r) (mod-eq_of_lt below) ∙ least k
  where
    least : (m : ℕ) → 0 + min 1 (suc m) ≡ 1
    least m = omega arith

ceil_next : (n k : ℕ) → 0 < n → div_ceil (suc k) n ≡ suc (div_ceil (suc k - n) n)
ceil_next n k some = by_length (cases_lt (suc k) n)
  where
    by_length : (suc k < n) ⊎ (n ≤ suc k) → div_ceil (suc k) n ≡ suc (div_ceil (suc k - n) n)
    by_length (inl below) =
        let none : suc k - n ≡ 0 = omega (arith, below) in
        ceil_one n k below ∙ ap suc (sym (ap (λ l. div_ceil l n) none ∙ ceil_zero n))
    by_length (inr full) =
        let is : suc k ≡ n + (suc k - n) = omega (arith, full) in
        ap (λ l. div_ceil l n) is ∙ ceil_more n (suc k - n) some

lines_next : {X : Type 0} (n : ℕ) (x : X) (xs : List X) → 0 < n
    → in_lines n (x ∷ xs) ≡ take n (x ∷ xs) ∷ in_lines n (drop n (x ∷ xs))
unfolding in_lines
lines_next n x xs some =
    ap (λ k. first_chunks n k (x ∷ xs)) (ceil_next n (length xs) some)
    ∙ ap (λ l. take n (x ∷ xs) ∷ first_chunks n (div_ceil l n) (drop n (x ∷ xs)))
    (sym (length-drop n (x ∷ xs)))

-- the first of them
pub lines_on : {X Y : Type 0} (f : List X → Y) (n : ℕ) (xs : List X) → 0 < n → 0 < length xs
    → map f (in_lines n xs) ≡ f (take n xs) ∷ map f (in_lines n (drop n xs))
lines_on f n [] some more = absurd (omega arith)
lines_on f n (x ∷ xs) some more = ap (map f) (lines_next n x xs some)

pub no_lines : {X Y : Type 0} (f : List X → Y) (n : ℕ) (xs : List X) → length xs ≡ 0
    → map f (in_lines n xs) ≡ []
unfolding in_lines
no_lines f n [] none = ap (λ k. map f (first_chunks n k [])) (ceil_zero n)
no_lines f n (x ∷ xs) none = absurd (omega (arith, none))

pub smaller : {X : Type 0} (n : ℕ) (xs after : List X) → after ≡ drop n xs → 0 < n → 0 < length xs
    → length after < length xs
smaller n xs after is some more =
    let long = ap length is ∙ length-drop n xs in omega (arith, long, some, more)
