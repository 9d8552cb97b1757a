-- Names in lines: a full line in front splits off, and what is left is the last.
use Rattle.std.proofs.Common.{◌≡◌, ℕ, ◌+◌, ◌/◌, ◌%◌, ◌<◌, ◌≤◌, Bool, true, false, min, suc, List}
use Rattle.std.proofs.Common.{[], ◌∷◌, ◌++◌, length, take, drop, eqb, refl, sym, ◌∙◌, ap, arith}
use Rattle.std.proofs.Common.{append-nil}
use Rattle.std.proofs.Math.Nat.{add-div_left, add-mod_left, div-eq_of_lt, mod-eq_of_lt, zero-div}
use Rattle.std.proofs.Math.Nat.{zero-mod}
use Rattle.std.proofs.Math.Seq.{take-append_seam, drop-append_seam}
use Rattle.std.proofs.lemmas.Bool.{eqb-true, eqb-false}
use Rattle.std.proofs.lemmas.List.{length-append, take_all}
use Rattle.std.specs.Int.{div_ceil}
use Rattle.std.specs.Simd.{first_chunks}
use Rattle.irc_acts.specs.Names.{in_lines}

one_more : (a b : ℕ) → (a + 1) + b ≡ suc (a + b)
one_more a b = omega arith

ceil_more : (n m : ℕ) → 0 < n → div_ceil (n + m) n ≡ suc (div_ceil m n)
ceil_more n m some =
    ap (λ d. d + min 1 ((n + m) % n)) (add-div_left m some)
    ∙ ap (λ r. (m / n + 1) + min 1 r) (add-mod_left n m)
    ∙ one_more (m / n) (min 1 (m % n))

pub full_first : {X : Type 0} (n : ℕ) (a b : List X) → length a ≡ n → 0 < n
    → in_lines n (a ++ b) ≡ a ∷ in_lines n b
unfolding in_lines
full_first n a b is some =
    ap (λ k. first_chunks n k (a ++ b)) (ap (λ l. div_ceil l n)
    (length-append a b ∙ ap (λ l. l + length b) is) ∙ ceil_more n (length b) some)
    ∙ ap (λ t. t ∷ first_chunks n (div_ceil (length b) n) (drop n (a ++ b)))
    (ap (λ m. take m (a ++ b)) (sym is) ∙ take-append_seam a b)
    ∙ ap (λ d. a ∷ first_chunks n (div_ceil (length b) n) d)
    (ap (λ m. drop m (a ++ b)) (sym is) ∙ drop-append_seam a b)

pub no_line : {X : Type 0} (n : ℕ) (a : List X) → length a ≡ 0 → in_lines n a ≡ []
unfolding in_lines
no_line n a none =
    ap (λ l. first_chunks n (div_ceil l n) a) none ∙ ap (λ k. first_chunks n k a) (ceil_zero n)
  where
    ceil_zero : (m : ℕ) → div_ceil 0 m ≡ 0
    ceil_zero m = ap (λ d. d + min 1 (0 % m)) (zero-div m) ∙ ap (λ r. 0 + min 1 r) (zero-mod m)

ceil_one : (n k : ℕ) → suc k < n → div_ceil (suc k) n ≡ 1
ceil_one n k below =
    ap (λ d. d + min 1 (suc k % n)) (div-eq_of_lt below)
    ∙ ap (λ r. 0 + min 1 r) (mod-eq_of_lt below) ∙ least k
  where
    least : (m : ℕ) → 0 + min 1 (suc m) ≡ 1
    least m = omega arith

short_line : {X : Type 0} (n : ℕ) (x : X) (a : List X) → suc (length a) < n
    → in_lines n (x ∷ a) ≡ (x ∷ a) ∷ []
unfolding in_lines
short_line n x a below =
    ap (λ k. first_chunks n k (x ∷ a)) (ceil_one n (length a) below)
    ∙ ap (λ t. t ∷ []) (take_all n (x ∷ a) (omega arith))

pub last_line : {X : Type 0} (n : ℕ) (a : List X) → 0 < length a → length a ≤ n
    → in_lines n a ≡ a ∷ []
last_line n [] some fits = absurd (omega arith)
last_line n (x ∷ a) some fits = by_length (eqb (suc (length a)) n) refl
  where
    by_length : (b : Bool) → eqb (suc (length a)) n ≡ b → in_lines n (x ∷ a) ≡ (x ∷ a) ∷ []
    by_length true full =
        let is = eqb-true (suc (length a)) n full in
        ap (in_lines n) (sym (append-nil (x ∷ a))) ∙ full_first n (x ∷ a) [] is (omega (arith, is))
        ∙ ap (λ ls. (x ∷ a) ∷ ls) (no_line n [] refl)
    by_length false short =
        short_line n x a (below (eqb-false (suc (length a)) n short))
      where
        below : (suc (length a) ≡ n → ⊥) → suc (length a) < n
        below other = omega (arith, other)
