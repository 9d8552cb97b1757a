-- What tests tell.
use Rattle.std.proofs.Common.{◌≡◌, Bool, true, false, not, ◌&&◌, refl}

pub and_not : (b c : Bool) → (b && not c) ≡ true → (b ≡ true) × (c ≡ false)
and_not true true e = cc
and_not true false e = (refl, refl)
and_not false c e = cc

pub not_and : (b c : Bool) → (not b && c) ≡ true → (b ≡ false) × (c ≡ true)
not_and true c e = cc
not_and false c e = (refl, e)
