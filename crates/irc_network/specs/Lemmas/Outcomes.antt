-- What is so where a call went well.
use Rattle.std.proofs.Common.{◌≡◌, Result, Ok, Err, OnOk}

pub on_ok : {E : Type 0} {A B : Type 0} (r : Result (Unit {0}) E) → OnOk r A → (A → B) → OnOk r B
on_ok (Ok _) a f = f a
on_ok (Err e) a f = tt

-- what is so in any case, and what nothing is asked of
pub on_any : {E : Type 0} {A : Type 0} (r : Result (Unit {0}) E) → A → OnOk r A
on_any (Ok _) a = a
on_any (Err e) a = tt

pub on_err : {E : Type 0} (A : Type 0) (r : Result (Unit {0}) E) (e : E) → r ≡ Err e → OnOk r A
on_err A (Ok _) e is = cc is
on_err A (Err f) e is = tt
