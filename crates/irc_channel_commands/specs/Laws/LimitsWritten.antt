-- A limit that is written without leading zeros is the same limit.
use Rattle.std.proofs.Common.{◌≡◌, ◌≤◌, ℕ, ◌+◌, ◌*◌, ◌-◌, Bool, true, false, cond, ◌&&◌, List, []}
use Rattle.std.proofs.Common.{◌∷◌, length, fold, suc, nat_eq, nat_le, refl, sym, ◌∙◌, ap, arith}
use Rattle.std.specs.List.{list_all}
use Rattle.std.specs.Char.{is_ascii_digit}
use Rattle.std.specs.Cmp.{first_so, second_so}
use Rattle.std.proofs.lemmas.Bool.{eqb-true}
use Rattle.std.proofs.lemmas.Bool.Decides.{nat_tests}
use Rattle.irc_names.specs.Digits.{number_of}
use Rattle.irc_modes.specs.Modes.{is_limit}
use Rattle.irc_modes.specs.Limits.{max_limit, max_limit_digits}
use Rattle.irc_channel_commands.specs.Judging.{without_zeros}

pub shorter : (digits : List ℕ) → length (without_zeros digits) ≤ length digits
shorter [] = omega arith
shorter (digit ∷ digits) = by (nat_eq digit 0x30) (shorter digits)
  where
    by : (test : Bool) → length (without_zeros digits) ≤ length digits
        → length (cond test (without_zeros digits) (digit ∷ digits)) ≤ suc (length digits)
    by true rest = omega (arith, rest)
    by false rest = omega arith

digits_still : (digits : List ℕ) → list_all is_ascii_digit digits ≡ true
    → list_all is_ascii_digit (without_zeros digits) ≡ true
digits_still [] all = refl
digits_still (digit ∷ digits) all =
    by (nat_eq digit 0x30) (digits_still digits
    (second_so (is_ascii_digit digit) (list_all is_ascii_digit digits) all))
  where
    by : (test : Bool) → list_all is_ascii_digit (without_zeros digits) ≡ true
        → list_all is_ascii_digit (cond test (without_zeros digits) (digit ∷ digits)) ≡ true
    by true rest = rest
    by false rest = all

fits_still : (m n most : ℕ) → m ≤ n → nat_le n most ≡ true → nat_le m most ≡ true
fits_still m n most less fits = grind (arith, nat_tests)

abbrev digit_step : ℕ → ℕ → ℕ
digit_step n digit = 10 * n + (digit - 48)

pub number_still : (digits : List ℕ) → number_of (without_zeros digits) ≡ number_of digits
number_still [] = refl
number_still (digit ∷ digits) = by (nat_eq digit 0x30) refl (number_still digits)
  where
    by : (test : Bool) → nat_eq digit 0x30 ≡ test
        → number_of (without_zeros digits) ≡ number_of digits
        → number_of (cond test (without_zeros digits) (digit ∷ digits)) ≡ number_of (digit ∷ digits)
    by true is rest =
        rest ∙ sym (ap (λ d. fold digit_step (10 * 0 + (d - 48)) digits) (eqb-true digit 0x30 is))
    by false is rest = refl

pub limit_still : (digits : List ℕ) → is_limit digits ≡ true
    → is_limit (without_zeros digits) ≡ true
unfolding is_limit
limit_still digits is =
    let few = nat_le (length digits) max_limit_digits in
    let front = first_so (list_all is_ascii_digit digits && few)
    (nat_le 1 (number_of digits) && nat_le (number_of digits) max_limit) is in
    let range = second_so (list_all is_ascii_digit digits && few)
    (nat_le 1 (number_of digits) && nat_le (number_of digits) max_limit) is in
    all_so (list_all is_ascii_digit (without_zeros digits))
    (nat_le (length (without_zeros digits)) max_limit_digits) _
    (digits_still digits (first_so (list_all is_ascii_digit digits) few front))
    (fits_still _ _ max_limit_digits (shorter digits)
    (second_so (list_all is_ascii_digit digits) few front))
    (ap (λ n. nat_le 1 n && nat_le n max_limit) (number_still digits) ∙ range)
  where
    all_so : (a b c : Bool) → a ≡ true → b ≡ true → c ≡ true → (a && b && c) ≡ true
    all_so a b c p q r = cc
