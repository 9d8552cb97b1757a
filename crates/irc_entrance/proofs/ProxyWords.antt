-- A text at its first space.
use Rattle.std.proofs.Common.{◌≡◌, ◌∙◌, sym, ap, refl, ℕ, ◌+◌, ◌≤◌, nat_lt, Bool, true, false}
use Rattle.std.proofs.Common.{cond, Some, None, List, [], ◌∷◌, length, take, drop, position}
use Rattle.std.proofs.Common.{◌-◌, nat_eq, arith}
use Rattle.std.proofs.Math.Nat.{lt_of_lt_of_le}
use Rattle.std.proofs.lemmas.Bool.{ltb-true, ltb-false, ne_eqb}
use Rattle.std.proofs.lemmas.List.{take_rest}
use Rattle.std.proofs.lemmas.List.Elements.{All-from_get_or}
use Rattle.std.proofs.lemmas.List.Splits.{length-slice_split, slice_split_first, slice_split_none}
use Rattle.std.proofs.lemmas.List.Sums.{fails_before_first}
use Rattle.std.specs.List.{position_or_len, slice_split}

at_end : (p : ℕ → Bool) (xs : List ℕ) → position p xs ≡ None → length xs ≤ position_or_len p xs
at_end p xs none =
    elim (nat_lt (position_or_len p xs) (length xs))
    as (λ t. nat_lt (position_or_len p xs) (length xs) ≡ t
    → cond t (Some (position_or_len p xs)) None ≡ None → length xs ≤ position_or_len p xs) [
      | true ↦ λ l (e : Some (position_or_len p xs) ≡ None). cc e
      | false ↦ λ l e. ltb-false _ _ l
    ] refl none

-- where there is no space, all is one word
pub one_word : (p : ℕ → Bool) (xs : List ℕ) → position p xs ≡ None → slice_split p xs ≡ xs ∷ []
one_word p xs none =
    slice_split_none p xs (All-from_get_or (λ x. p x ≡ false) xs 0
    (λ i l. fails_before_first p xs i 0 (lt_of_lt_of_le l (at_end p xs none))))

-- else the first word ends there
pub first_word : (p : ℕ → Bool) (xs : List ℕ) (place : ℕ) → position p xs ≡ Some place
    → slice_split p xs ≡ take place xs ∷ slice_split p (drop (place + 1) xs)
first_word p xs place found =
    elim (nat_lt (position_or_len p xs) (length xs))
    as (λ t. nat_lt (position_or_len p xs) (length xs) ≡ t
    → cond t (Some (position_or_len p xs)) None ≡ Some place
    → slice_split p xs ≡ take place xs ∷ slice_split p (drop (place + 1) xs)) [
      | true ↦ λ l (e : Some (position_or_len p xs) ≡ Some place).
          slice_split_first p xs 0 (ltb-true _ _ l)
          ∙ ap (λ n. take n xs ∷ slice_split p (drop (n + 1) xs)) (cc e)
      | false ↦ λ l (e : None ≡ Some place). cc e
    ] refl found

-- the rest as a slice has it
pub first_word_taken : (p : ℕ → Bool) (xs : List ℕ) (place : ℕ) → position p xs ≡ Some place
    → slice_split p xs
    ≡ take place xs ∷ slice_split p (take (length xs - (place + 1)) (drop (place + 1) xs))
first_word_taken p xs place found =
    first_word p xs place found
    ∙ ap (λ rest. take place xs ∷ slice_split p rest) (sym (take_rest xs (place + 1)))

-- five words are not four
pub fifth_word : (p : ℕ → Bool) (a b c d t u v w x : List ℕ)
    → slice_split p t ≡ a ∷ slice_split p u → slice_split p u ≡ b ∷ slice_split p v
    → slice_split p v ≡ c ∷ slice_split p w → slice_split p w ≡ d ∷ slice_split p x
    → nat_eq (length (slice_split p t)) 4 ≡ false
fifth_word p a b c d t u v w x first second third fourth =
    ne_eqb (length (slice_split p t)) 4 (λ four. omega (
      arith,
      four,
      longer t u first,
      longer u v second,
      longer v w third,
      longer w x fourth,
      length-slice_split p x,
    ))
  where
    longer : (y z : List ℕ) {word : List ℕ} → slice_split p y ≡ word ∷ slice_split p z
        → length (slice_split p y) ≡ length (slice_split p z) + 1
    longer y z e = ap length e ∙ omega arith
