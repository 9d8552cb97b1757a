-- The text of a limit that is written: it is its one spelling.
use Rattle.std.proofs.Common.{◌≡◌, ℕ, ◌<◌, ◌≤◌, true, false, List, [], ◌∷◌, length, get_or, nat_eq}
use Rattle.std.proofs.Common.{decimal, sym, ap, arith}
use Rattle.std.proofs.lemmas.Bool.{and_from}
use Rattle.std.proofs.lemmas.Fmt.{decimal-digits_value}
use Rattle.std.proofs.lemmas.Slice.Eq.{bytes_eq-Decides}
use Rattle.irc_names.specs.Digits.{number_of}
use Rattle.irc_modes.specs.Modes.{is_limit}
use Rattle.irc_modes.specs.ModesSet.{IsLimit}
use Rattle.irc_modes.specs.Readable.{is_written_limit}
use Rattle.irc_modes.specs.Lemmas.LimitFacts.{limit-digits}
use Rattle.irc_modes.specs.Lemmas.LimitText.{numerals, limit_number, number_written, limit_written}

-- the text of a limit is the one spelling that is written
pub written_limit : (limit : ℕ) → IsLimit limit → is_written_limit (decimal limit) ≡ true
written_limit limit in_range =
    and_from (is_limit (decimal limit)) _ (limit_written limit in_range)
    ((bytes_eq-Decides (decimal limit) (decimal (number_of (decimal limit)))).1
    (ap decimal (sym (number_written limit in_range))))

-- a limit that does not begin with a zero is in that spelling
pub plain_limit : (digits : List ℕ) → is_limit digits ≡ true → nat_eq (get_or digits 0 0) 48 ≡ false
    → is_written_limit digits ≡ true
plain_limit digits h plain =
    let number = limit_number digits h in
    let other : get_or digits 0 0 ≡ 48 → length digits ≡ 1 =
    λ e. let clash = ap (λ b. nat_eq b 48) e in cc in
    let some : 0 < length digits = by digits number.least in
    and_from (is_limit digits) _ h
    ((bytes_eq-Decides digits (decimal (number_of digits))).1
    (sym (decimal-digits_value numerals digits (limit-digits digits h) some other
    (omega (arith, number.most)))))
  where
    by : (ds : List ℕ) → 1 ≤ number_of ds → 0 < length ds
    by [] least = absurd (omega arith)
    by (d ∷ ds) least = omega arith
