-- What stands at a place of a list is found there.
use Rattle.std.proofs.Common.{◌≡◌, ◌<◌, ℕ, zero, suc, Some, List, [], ◌∷◌, sym, ap, arith, length}
use Rattle.std.proofs.Common.{get_or}
use Rattle.std.specs.List.{slice_get}

pub found_at : {X : Type 0} (xs : List X) (i : ℕ) (x : X) → i < length xs → x ≡ get_or xs i x
    → slice_get xs i ≡ Some x
found_at [] i x within is = absurd (omega (arith, within))
found_at (y ∷ xs) zero x within is = ap Some (sym is)
found_at (y ∷ xs) (suc i) x within is = found_at xs i x (omega (arith, within)) is
