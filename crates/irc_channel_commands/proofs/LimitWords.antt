-- A limit, written without leading zeros, is short.
use Rattle.std.proofs.Common.{◌≡◌, ◌≢◌, ◌≤◌, ◌<◌, ◌+◌, ℕ, true, cond, List}
use Rattle.std.proofs.Common.{◌∷◌, length, drop, get_or, sym, ◌∙◌, ap, arith, nat_eq}
use Rattle.std.proofs.lemmas.List.{drop_more}
use Rattle.std.proofs.lemmas.Bool.{ne_eqb}
use Rattle.irc_modes.specs.Lemmas.LimitFacts.{limit-few}
use Rattle.irc_modes.specs.Modes.{is_limit}
use Rattle.irc_modes.specs.Limits.{max_mode_word}
use Rattle.irc_channel_commands.specs.Judging.{without_zeros}
use Rattle.irc_channel_commands.specs.Laws.LimitsWritten.{shorter}

within_word : (n : ℕ) → n ≤ 5 → n ≤ 90
within_word n few = omega (arith, few)

below : (m n : ℕ) → m ≤ n → n ≤ 5 → m ≤ 5
below m n fits few = omega (arith, fits, few)

pub limit_fits : (digits : List ℕ) → is_limit digits ≡ true
    → length (without_zeros digits) ≤ max_mode_word
limit_fits digits is = within_word _ (below _ _ (shorter digits) (limit-few digits is))

-- a zero in front makes no difference
pub one_zero : (digits : List ℕ) (i d : ℕ) → i < length digits → get_or digits i d ≡ 0x30
    → without_zeros (drop i digits) ≡ without_zeros (drop (i + 1) digits)
one_zero digits i d within zero_there =
    ap without_zeros (drop_more digits i d within)
    ∙ ap (λ b. cond b (without_zeros (drop (i + 1) digits))
    (get_or digits i d ∷ drop (i + 1) digits)) (ap (λ n. nat_eq n 0x30) zero_there)

-- another digit is the first that is written
pub no_zero : (digits : List ℕ) (i d : ℕ) → i < length digits → get_or digits i d ≢ 0x30
    → without_zeros (drop i digits) ≡ drop i digits
no_zero digits i d within other =
    ap without_zeros (drop_more digits i d within)
    ∙ ap (λ b. cond b (without_zeros (drop (i + 1) digits))
    (get_or digits i d ∷ drop (i + 1) digits)) (ne_eqb (get_or digits i d) 0x30 other)
    ∙ sym (drop_more digits i d within)
