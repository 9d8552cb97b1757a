-- Pipes that are still.
use Rattle.std.proofs.Common.{◌≡◌, ℕ, Bool, true, false, ◌&&◌, ◌||◌, not, List, [], ◌∷◌, refl, sym}
use Rattle.std.proofs.Common.{◌∙◌, ap}
use Rattle.std.proofs.lemmas.Bool.{eqb-true}
use Rattle.std.specs.Cmp.{first_so, second_so, unsigned_tied}
use Rattle.std.specs.List.{list_all, list_any}
use Rattle.std.specs.Ordering.{eq_by_cmp, nat_cmp}
use Rattle.irc_line.specs.Lines.{has_nothing, is_empty, nothing_begun}
use Rattle.irc_pipes.specs.Pipes.{LinkPipe, is_none, is_still, new_pipe}

nothing_is : (kept : List ℕ) (nul : Bool) → (is_empty kept && not nul) ≡ true
    → record { kept = kept; nul_seen = nul } ≡ nothing_begun
nothing_is [] true is = cc is
nothing_is [] false is = refl
nothing_is (byte ∷ kept) nul is = cc is

none_is : (bytes : List ℕ) → is_none bytes ≡ true → bytes ≡ []
none_is [] is = refl
none_is (byte ∷ bytes) is = cc is

-- it is as one along which nothing was written yet
pub still_is_new : (pipe : LinkPipe) → is_still pipe ≡ true → pipe ≡ new_pipe
still_is_new pipe is =
    ap (λ begun. record { begun = begun; bytes = pipe.bytes })
    (nothing_is pipe.begun.kept pipe.begun.nul_seen
    (second_so (is_none pipe.bytes) (has_nothing pipe.begun) is))
    ∙ ap (λ bytes. record { begun = nothing_begun; bytes = bytes })
    (none_is pipe.bytes (first_so (is_none pipe.bytes) (has_nothing pipe.begun) is))

-- what all numbers of a list pass, one of them does
pub one_of : (p : ℕ → Bool) (q : ℕ) (numbers : List ℕ) → list_all p numbers ≡ true
    → list_any (eq_by_cmp nat_cmp q) numbers ≡ true → p q ≡ true
one_of p q [] all is = cc is
one_of p q (number ∷ numbers) all is =
    by (eq_by_cmp nat_cmp q number) refl
    (one_of p q numbers (second_so (p number) (list_all p numbers) all)) is
  where
    by : (b : Bool) → eq_by_cmp nat_cmp q number ≡ b
        → (list_any (eq_by_cmp nat_cmp q) numbers ≡ true → p q ≡ true)
        → (b || list_any (eq_by_cmp nat_cmp q) numbers) ≡ true → p q ≡ true
    by true one later is = ap p (eqb-true q number (sym (unsigned_tied q number) ∙ one))
        ∙ first_so (p number) (list_all p numbers) all
    by false two later is = later is
