-- Texts that were cut before the line is.
use Rattle.std.proofs.Common.{◌≡◌, ℕ, zero, suc, ◌≤◌, List, [], ◌∷◌, ◌++◌, take, refl, ap, arith}
use Rattle.std.proofs.lemmas.List.{take-take}
use Rattle.irc_line.specs.Limits.{max_line}
use Rattle.irc_line.specs.Bytes.{cut}

pub take-append_take : (n m : ℕ) (xs ys : List ℕ) → n ≤ m
    → take n (xs ++ take m ys) ≡ take n (xs ++ ys)
take-append_take zero m xs ys below = refl
take-append_take (suc n) m [] ys below = take-take (suc n) m ys below
take-append_take (suc n) m (x ∷ xs) ys below =
    ap (λ zs. x ∷ zs) (take-append_take n m xs ys (omega arith))

-- what was cut off the end of a line makes no difference to the line
pub cut-append_cut : (xs ys : List ℕ) → cut (xs ++ cut ys) ≡ cut (xs ++ ys)
unfolding cut
cut-append_cut xs ys = take-append_take max_line max_line xs ys (omega arith)

-- nothing is cut of nothing
pub cut-nil : [] ≡ cut []
unfolding cut
cut-nil = refl
