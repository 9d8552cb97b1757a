use Rattle.std.proofs.Common.{ℕ, ◌-◌, ◌*◌, ◌+◌, ◌<◌, ◌^◌, true, ◌≡◌, fold, List, arith, rules}
use Rattle.std.proofs.lemmas.Fmt.{digits_decimal, decimal_is_IsNumeral, length-decimal-le}
use Rattle.std.proofs.lemmas.Str.Parse.{IsNumeralModel, numerals_by_fold}
use Rattle.std.specs.Char.{is_ascii_digit}
use Rattle.std.specs.List.{list_all}
use Rattle.irc_decimals.proofs.laws.numbers_are_digits.Goals as goal

abbrev number_on : ℕ → List ℕ → ℕ
number_on n digits = fold (λ m digit. 10 * m + (digit - 48)) n digits

numerals : IsNumeralModel (λ ds. list_all is_ascii_digit ds ≡ true) (number_on 0)
numerals = numerals_by_fold _ (search rules) number_on (search rules)

pub returns : goal.returns
returns c number most =
    let small : number < 2 ^ 64 = omega (arith, most) in
    record {
      digits = digits_decimal numerals number small;
      some = (decimal_is_IsNumeral number small).0.0;
      few = length-decimal-le 20 number (omega arith) (omega (arith, most)) small;
    }
