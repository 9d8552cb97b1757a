-- What holds of numbers that are written and read.
use Rattle.std.specs.Prelude.{◌≡◌, ◌<◌, ◌≤◌, ℕ, true, Some, decimal, length}
use Rattle.std.specs.Char.{is_ascii_digit}
use Rattle.std.specs.List.{list_all}
use Rattle.irc_decimals.specs.Numbers.{written_number}

-- a number of at most 64 bits is read of what it is written as
abbrev pub WrittenIsRead : Type 0
WrittenIsRead =
    (number : ℕ) → number ≤ 18446744073709551615 → written_number (decimal number) ≡ Some number

-- what is written of a number: one digit at least, and 20 at most
pub record AreDigits (number : ℕ) : Type 0 where
  pub digits : list_all is_ascii_digit (decimal number) ≡ true
  pub some : 0 < length (decimal number)
  pub few : length (decimal number) ≤ 20

abbrev pub NumbersAreDigits : Type 0
NumbersAreDigits = (number : ℕ) → number ≤ 18446744073709551615 → AreDigits number
