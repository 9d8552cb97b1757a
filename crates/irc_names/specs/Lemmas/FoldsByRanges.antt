-- What the table of folds says of each range of bytes, as the code reads them. Each fact is checked
-- at each byte of the table.
use Rattle.std.proofs.Common.{◌≡◌, ℕ, ◌+◌, ◌<◌, inl, inr, Bool, true, ◌&&◌, cond, suc, zero, nat_eq}
use Rattle.std.proofs.Common.{nat_le, refl, arith, subst, sym}
use Rattle.std.proofs.lemmas.Bool.Decides.{nat_tests}
use Rattle.std.proofs.lemmas.Bool.{cases_eq, eqb-true}
use Rattle.std.specs.Cmp.{first_so, second_so}
use Rattle.irc_names.specs.Fold.{fold, fold_table}

-- the code's cases, as a function of the byte
abbrev pub by_ranges : ℕ → ℕ
by_ranges byte =
    cond (nat_le 65 byte && nat_le byte 90) (byte + 32)
    (cond (nat_eq byte 91) 123
    (cond (nat_eq byte 93) 125
    (cond (nat_eq byte 92) 124
    (cond (nat_eq byte 126) 94 byte))))

-- whether two functions agree at each number below a bound
abbrev pub agree_below : (ℕ → ℕ) → (ℕ → ℕ) → ℕ → Bool
agree_below f g zero = true
agree_below f g (suc n) = nat_eq (f n) (g n) && agree_below f g n

pub agree_at : (f g : ℕ → ℕ) (bound n : ℕ) → agree_below f g bound ≡ true → n < bound → f n ≡ g n
agree_at f g zero n agree below = absurd (omega arith)
agree_at f g (suc k) n agree below =
    let last : f k ≡ g k =
    eqb-true (f k) (g k) (first_so (nat_eq (f k) (g k)) (agree_below f g k) agree) in
    let before : agree_below f g k ≡ true =
    second_so (nat_eq (f k) (g k)) (agree_below f g k) agree in
    elim (cases_eq n k) [
      | inl same ↦ subst (λ m. f m ≡ g m) (sym same) last
      | inr other ↦ agree_at f g k n before (omega arith)
    ]

table_agrees : agree_below fold by_ranges 256 ≡ true
unfolding fold fold_table
table_agrees = refl

-- the fold of a byte, by the code's cases
pub fold-by_ranges : (byte : ℕ) → byte < 256 → fold byte ≡ by_ranges byte
fold-by_ranges byte below = agree_at fold by_ranges 256 byte table_agrees below

-- what the code's cases need
pub ruleset folds = (fold-by_ranges, nat_tests)
