-- The text of a number is one, and that number is read of it.
use Rattle.std.proofs.Common.{◌≡◌, ℕ, ◌+◌, ◌-◌, ◌*◌, ◌^◌, ◌<◌, ◌≤◌, true, not, ◌&&◌, List, [], ◌∷◌}
use Rattle.std.proofs.Common.{length, get_or, nat_le, fold, decimal, arith, rules}
use Rattle.std.proofs.lemmas.Bool.{and_from}
use Rattle.std.proofs.lemmas.Bool.Decides.{nat_tests}
use Rattle.std.proofs.lemmas.Fmt.{digits_decimal, digits_value-decimal, first_decimal}
use Rattle.std.proofs.lemmas.Fmt.{length-decimal-le}
use Rattle.std.proofs.lemmas.Str.Parse.{IsNumeralModel, numerals_by_fold}
use Rattle.std.specs.List.{list_all}
use Rattle.std.specs.Char.{is_ascii_digit}
use Rattle.irc_names.specs.Names.{fits}
use Rattle.irc_names.specs.Digits.{number_of}
use Rattle.irc_link_words.specs.Numbers.{begins_with_zero, is_number, max_number_digits}

abbrev number_on : ℕ → List ℕ → ℕ
number_on n digits = fold (λ m digit. 10 * m + (digit - 48)) n digits

numerals : IsNumeralModel (λ ds. list_all is_ascii_digit ds ≡ true) (number_on 0)
numerals = numerals_by_fold _ (search rules) number_on (search rules)

pub number_read : (n : ℕ) → n ≤ 4294967295 → number_of (decimal n) ≡ n
number_read n most = digits_value-decimal numerals n (omega (arith, most))

no_zero : (digits : List ℕ) → 48 < get_or digits 0 0 → not (begins_with_zero digits) ≡ true
no_zero [] some = absurd (omega (arith, some))
no_zero (digit ∷ digits) some = grind (arith, nat_tests)

pub number_taken : (n : ℕ) → 1 ≤ n → n ≤ 4294967295 → is_number (decimal n) ≡ true
unfolding is_number
number_taken n least most =
    let read = number_read n most in
    let small : n < 2 ^ 64 = omega (arith, most) in
    let short : length (decimal n) ≤ 10 =
    length-decimal-le 10 n (omega arith) (omega (arith, most)) small in
    let low : 1 ≤ number_of (decimal n) = omega (arith, read, least) in
    let high : number_of (decimal n) ≤ 4294967295 = omega (arith, read, most) in
    let digits = list_all is_ascii_digit (decimal n) in
    let few = fits max_number_digits (decimal n) in
    and_from (digits && few && not (begins_with_zero (decimal n))) _
    (and_from (digits && few) _
    (and_from digits few (digits_decimal numerals n small) (grind (arith, nat_tests)))
    (no_zero (decimal n) (first_decimal n (omega (arith, least)) small)))
    (and_from (nat_le 1 (number_of (decimal n))) _ (grind (arith, nat_tests))
    (grind (arith, nat_tests)))

pub number_digits : (n : ℕ) → n ≤ 4294967295 → list_all is_ascii_digit (decimal n) ≡ true
number_digits n most = digits_decimal numerals n (omega (arith, most))
