-- Which row a command fits, by its first parameter.
use Rattle.std.proofs.Common.{◌≡◌, ℕ, true, not, Some, List, [], ◌∷◌, length, sym, ◌∙◌, ap, eqb}
use Rattle.std.specs.Borrow.{Bor}
use Rattle.std.specs.List.{slice_get}
use Rattle.irc_line.specs.PartViews.{words_now}

-- what is so of a first parameter that is not empty
pub first_given : {X : Type 0} (rows : List (List ℕ) → X) (chosen : List ℕ → X) → ((b : ℕ)
    (bytes : List ℕ) (more : List (List ℕ)) → rows ((b ∷ bytes) ∷ more) ≡ chosen (b ∷ bytes))
    → (params : List (Bor (List ℕ))) (given : Bor (List ℕ)) → Some given ≡ slice_get params 0
    → not (eqb (length given.now) 0) ≡ true → rows (words_now params) ≡ chosen (given.now)
first_given rows chosen some [] given is full = cc is
first_given rows chosen some (p ∷ params) given is full =
    let same : given ≡ p = cc is in
    ap (λ (g : Bor (List ℕ)). rows (g.now ∷ words_now params)) (sym same)
    ∙ not_empty (given.now) full
  where
    not_empty : (bytes : List ℕ) → not (eqb (length bytes) 0) ≡ true
        → rows (bytes ∷ words_now params) ≡ chosen bytes
    not_empty [] none = cc none
    not_empty (b ∷ bytes) full = some b bytes (words_now params)
