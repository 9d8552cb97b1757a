-- When a word is a number.
use Rattle.std.proofs.Common.{◌≡◌, ℕ, ◌<◌, ◌^◌, ◌&&◌, not, true, false, cond, nat_lt, Some, None}
use Rattle.std.proofs.Common.{List, ap, ◌∙◌, refl, arith, decimal}
use Rattle.std.proofs.lemmas.Bool.Decides.{nat_tests}
use Rattle.std.proofs.lemmas.Fmt.{decimal_is_IsNumeral}
use Rattle.std.proofs.lemmas.Slice.Eq.{bytes_eq-Decides}
use Rattle.std.specs.Str.Parse.{digits_value}
use Rattle.irc_decimals.specs.Numbers.{max_number, writes, written_number}

fits : (n : ℕ) → n < 2 ^ 64 → not (nat_lt max_number n) ≡ true
unfolding max_number
fits n small = grind (arith, nat_tests)

is_small : (n : ℕ) → not (nat_lt max_number n) ≡ true → n < 2 ^ 64
unfolding max_number
is_small n fits = grind (arith, nat_tests)

-- the text of a number is read as it
pub written : (word : List ℕ) (n : ℕ) → n < 2 ^ 64 → word ≡ decimal n → written_number word ≡ Some n
written word n small e =
    let value : digits_value 10 word ≡ n =
    ap (digits_value 10) e ∙ (decimal_is_IsNumeral n small).1 in
    let same : writes n word ≡ true = (bytes_eq-Decides word (decimal n)).1 e in
    rw value (rw (fits n small) (rw same refl))

-- what is no number's text is not read
pub not_written : (word : List ℕ) → ((n : ℕ) → n < 2 ^ 64 → word ≡ decimal n → ⊥)
    → written_number word ≡ None
not_written word none =
    let n = digits_value 10 word in
    elim (not (nat_lt max_number n)) as (λ b. not (nat_lt max_number n) ≡ b
    → cond (b && writes n word) (Some n) None ≡ None) [
      | true ↦ λ small. elim (writes n word) as (λ b. writes n word ≡ b
          → cond b (Some n) None ≡ None) [
            | true ↦ λ same.
                absurd (none n (is_small n small) ((bytes_eq-Decides word (decimal n)).0 same))
            | false ↦ λ _. refl
          ] refl
      | false ↦ λ _. refl
    ] refl
