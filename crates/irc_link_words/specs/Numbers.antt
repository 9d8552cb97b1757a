-- Numbers in the lines of a link (RFC 2813 section 4.1.2): distances, and the tokens that stand for
-- servers.
use Rattle.std.specs.Prelude.{ℕ, Bool, false, not, ◌&&◌, List, [], ◌∷◌, nat_eq, nat_le}
use Rattle.std.specs.List.{list_all}
use Rattle.std.specs.Char.{is_ascii_digit}
use Rattle.irc_names.specs.Names.{fits}
use Rattle.irc_names.specs.Digits.{number_of}

-- the greatest number (our own choice), and how many digits it has
abbrev pub max_number : ℕ
max_number = 4294967295

abbrev pub max_number_digits : ℕ
max_number_digits = 10

-- whether the first digit is a zero, by which a number would have several spellings
abbrev pub begins_with_zero : List ℕ → Bool
begins_with_zero [] = false
begins_with_zero (digit ∷ digits) = nat_eq digit 0x30

-- a number from 1 on, without leading zeros
unfoldable pub is_number : List ℕ → Bool
is_number word =
    list_all is_ascii_digit word && fits max_number_digits word && not (begins_with_zero word)
    && (nat_le 1 (number_of word) && nat_le (number_of word) max_number)
