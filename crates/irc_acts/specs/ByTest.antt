-- What is so of both outcomes of a test is so of its result.
use Rattle.std.proofs.Common.{◌≡◌, Bool, true, false, cond, refl}

pub by_test : {X : Type 0} (Q : X → Type 0) (b : Bool) (x y : X) → (b ≡ true → Q x)
    → (b ≡ false → Q y) → Q (cond b x y)
by_test Q true x y is not_so = is refl
by_test Q false x y is not_so = not_so refl
