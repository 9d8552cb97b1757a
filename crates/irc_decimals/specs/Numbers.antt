-- Numbers in decimal digits, as they are written in scripts, in words of the program and on links.
use Rattle.std.specs.Prelude.{ℕ, ◌&&◌, not, Bool, Option, Some, None, List, nat_lt, decimal}
use Rattle.std.specs.Prelude.{if◌then◌else◌}
use Rattle.std.specs.Str.{bytes_eq}
use Rattle.std.specs.Str.Parse.{digits_value}

-- the greatest number: of 64 bits (our own choice)
unfoldable pub max_number : ℕ
max_number = 18446744073709551615

-- whether a word is how the number is written: digits, and no zero in front of others
abbrev pub writes : ℕ → List ℕ → Bool
writes number word = bytes_eq word (decimal number)

-- the number that is written so, if it is not too great
abbrev pub written_number : List ℕ → Option ℕ
written_number word = let number = digits_value 10 word in
    if not (nat_lt max_number number) && writes number word then Some number else None
