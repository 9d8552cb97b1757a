-- What is known of a limit: it is made of digits, few enough, and is not too great.
use Rattle.std.proofs.Common.{◌≡◌, ℕ, ◌≤◌, true, ◌&&◌, nat_le, List, length, arith}
use Rattle.std.specs.List.{list_all}
use Rattle.std.specs.Char.{is_ascii_digit}
use Rattle.std.specs.Cmp.{first_so, second_so}
use Rattle.std.proofs.lemmas.Bool.Decides.{nat_tests}
use Rattle.irc_names.specs.Names.{fits}
use Rattle.irc_names.specs.Digits.{number_of}
use Rattle.irc_modes.specs.declared.TheConstants.{MAX_LIMIT, MAX_LIMIT_DIGITS}
use Rattle.irc_modes.specs.Modes.{is_limit}

pub limit-digits : (digits : List ℕ) → is_limit digits ≡ true
    → list_all is_ascii_digit digits ≡ true
unfolding is_limit
limit-digits digits h =
    let few = fits MAX_LIMIT_DIGITS digits in
    first_so (list_all is_ascii_digit digits) few
    (first_so (list_all is_ascii_digit digits && few) _ h)

pub limit-few : (digits : List ℕ) → is_limit digits ≡ true → length digits ≤ MAX_LIMIT_DIGITS
unfolding is_limit
limit-few digits h =
    let few = fits MAX_LIMIT_DIGITS digits in
    let short : few ≡ true = second_so (list_all is_ascii_digit digits) few
    (first_so (list_all is_ascii_digit digits && few) _ h) in
    grind (arith, nat_tests)

pub limit-most : (digits : List ℕ) → is_limit digits ≡ true → number_of digits ≤ MAX_LIMIT
unfolding is_limit
limit-most digits h =
    let all = list_all is_ascii_digit digits && fits MAX_LIMIT_DIGITS digits in
    let range : (nat_le 1 (number_of digits) && nat_le (number_of digits) MAX_LIMIT) ≡ true =
    second_so all _ h in
    let most : nat_le (number_of digits) MAX_LIMIT ≡ true =
    second_so (nat_le 1 (number_of digits)) _ range in
    grind (arith, nat_tests)

pub ruleset limit_facts = (limit-digits, limit-few, limit-most)
