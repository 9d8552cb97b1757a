-- What is put out grows, and what comes of a call that goes well.
use Rattle.std.proofs.Common.{Result, Ok, Err, OnOk}

pub on_ok : {E : Type 0} (result : Result (Unit {0}) E) (P Q : Type 0) → (P → Q) → OnOk result P
    → OnOk result Q
on_ok (Ok done) P Q then holds = then holds
on_ok (Err e) P Q then holds = tt

pub both_ok : {E : Type 0} (result : Result (Unit {0}) E) (P Q R : Type 0) → (P → Q → R)
    → OnOk result P → OnOk result Q → OnOk result R
both_ok (Ok done) P Q R gives one other = gives one other
both_ok (Err fault) P Q R gives one other = tt
