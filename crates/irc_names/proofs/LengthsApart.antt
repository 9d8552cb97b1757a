-- Names of different lengths are not the same.
use Rattle.std.proofs.Common.{◌≡◌, ◌==◌, ℕ, Bool, true, false, List, length, refl}
use Rattle.std.proofs.lemmas.Bool.Decides.{Decides-eqb}
use Rattle.irc_names.specs.Fold.{same}
use Rattle.irc_names.specs.FoldLaws.{same-long}

pub lengths_apart : (a b : List ℕ) → (length a ≡ length b → ⊥) → (length a == length b) ≡ same a b
lengths_apart a b differ = neither (length a == length b) (same a b)
    (λ h. differ ((Decides-eqb (length a) (length b)).0 h)) (λ h. differ (same-long a b h))
  where
    neither : (e s : Bool) → (e ≡ true → ⊥) → (s ≡ true → ⊥) → e ≡ s
    neither false false no_e no_s = refl
    neither false true no_e no_s = absurd (no_s refl)
    neither true s no_e no_s = absurd (no_e refl)
