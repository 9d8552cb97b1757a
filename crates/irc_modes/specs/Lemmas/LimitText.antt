-- The text of a limit: the number that it is, and the limit that is read of it.
use Rattle.std.proofs.Common.{◌≡◌, ℕ, ◌+◌, ◌-◌, ◌*◌, ◌^◌, ◌<◌, ◌≤◌, true, ◌&&◌, List, length}
use Rattle.std.proofs.Common.{nat_le, fold, decimal, arith, rules}
use Rattle.std.proofs.lemmas.Bool.{and_from}
use Rattle.std.proofs.lemmas.Bool.Decides.{nat_tests}
use Rattle.std.proofs.lemmas.Fmt.{digits_decimal, digits_value-decimal, length-decimal-le}
use Rattle.std.proofs.lemmas.Str.Parse.{IsNumeralModel, numerals_by_fold}
use Rattle.std.specs.List.{list_all}
use Rattle.std.specs.Char.{is_ascii_digit}
use Rattle.std.specs.Cmp.{first_so, second_so}
use Rattle.irc_names.specs.Names.{fits}
use Rattle.irc_names.specs.Digits.{number_of}
use Rattle.irc_modes.specs.Modes.{is_limit}
use Rattle.irc_modes.specs.Limits.{max_limit, max_limit_digits}
use Rattle.irc_modes.specs.ModesSet.{IsLimit}
use Rattle.irc_modes.specs.Lemmas.LimitFacts.{limit-most}

abbrev pub number_on : ℕ → List ℕ → ℕ
number_on n digits = fold (λ m digit. 10 * m + (digit - 48)) n digits

pub numerals : IsNumeralModel (λ ds. list_all is_ascii_digit ds ≡ true) (number_on 0)
numerals = numerals_by_fold _ (search rules) number_on (search rules)

-- a limit's number is one
pub limit_number : (digits : List ℕ) → is_limit digits ≡ true → IsLimit (number_of digits)
unfolding is_limit
limit_number digits h =
    let all = list_all is_ascii_digit digits && fits max_limit_digits digits in
    let range : (nat_le 1 (number_of digits) && nat_le (number_of digits) max_limit) ≡ true =
    second_so all _ h in
    let least : nat_le 1 (number_of digits) ≡ true =
    first_so (nat_le 1 (number_of digits)) _ range in
    record { least = grind (arith, nat_tests); most = limit-most digits h }

-- a number's text writes that number
pub number_written : (limit : ℕ) → IsLimit limit → number_of (decimal limit) ≡ limit
number_written limit in_range = digits_value-decimal numerals limit (omega (arith, in_range.most))

pub limit_written : (limit : ℕ) → IsLimit limit → is_limit (decimal limit) ≡ true
unfolding is_limit
limit_written limit in_range =
    let number = number_written limit in_range in
    let small : limit < 2 ^ 64 = omega (arith, in_range.most) in
    let short : length (decimal limit) ≤ max_limit_digits =
    length-decimal-le 5 limit (omega arith) (omega (arith, in_range.most)) small in
    let least : 1 ≤ number_of (decimal limit) = omega (arith, number, in_range.least) in
    let most : number_of (decimal limit) ≤ max_limit = omega (arith, number, in_range.most) in
    and_from (list_all is_ascii_digit (decimal limit) && fits max_limit_digits (decimal limit)) _
    (and_from (list_all is_ascii_digit (decimal limit)) _ (digits_decimal numerals limit small)
    (grind (arith, nat_tests)))
    (and_from (nat_le 1 (number_of (decimal limit))) _ (grind (arith, nat_tests))
    (grind (arith, nat_tests)))
