-- What is known of a number in a line.
use Rattle.std.proofs.Common.{◌≡◌, ◌≤◌, ℕ, true, not, ◌&&◌, nat_le, List, length, arith}
use Rattle.std.specs.List.{list_all}
use Rattle.std.specs.Char.{is_ascii_digit}
use Rattle.std.specs.Cmp.{first_so, second_so}
use Rattle.std.proofs.lemmas.Bool.Decides.{nat_tests}
use Rattle.irc_names.specs.Names.{fits}
use Rattle.irc_names.specs.Digits.{number_of}
use Rattle.irc_link_words.specs.Numbers.{begins_with_zero, is_number, max_number, max_number_digits}

pub number-most : (digits : List ℕ) → is_number digits ≡ true → number_of digits ≤ 4294967295
unfolding is_number
number-most digits h =
    let front = list_all is_ascii_digit digits && fits max_number_digits digits
    && not (begins_with_zero digits) in
    let range : (nat_le 1 (number_of digits) && nat_le (number_of digits) max_number) ≡ true =
    second_so front _ h in
    let most : nat_le (number_of digits) max_number ≡ true =
    second_so (nat_le 1 (number_of digits)) _ range in
    grind (arith, nat_tests)

pub number-digits : (digits : List ℕ) → is_number digits ≡ true
    → list_all is_ascii_digit digits ≡ true
unfolding is_number
number-digits digits h =
    let few = fits max_number_digits digits in
    let plain = not (begins_with_zero digits) in
    first_so (list_all is_ascii_digit digits) few
    (first_so (list_all is_ascii_digit digits && few) plain
    (first_so (list_all is_ascii_digit digits && few && plain) _ h))

pub number-few : (digits : List ℕ) → is_number digits ≡ true → length digits ≤ 10
unfolding is_number
number-few digits h =
    let few = fits max_number_digits digits in
    let plain = not (begins_with_zero digits) in
    let short : few ≡ true = second_so (list_all is_ascii_digit digits) few
    (first_so (list_all is_ascii_digit digits && few) plain
    (first_so (list_all is_ascii_digit digits && few && plain) _ h)) in
    grind (arith, nat_tests)

pub ruleset number_facts = (number-digits, number-few, number-most)
