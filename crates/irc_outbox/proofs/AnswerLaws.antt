-- What a wire in memory answers.
use Rattle.std.proofs.Common.{◌≡◌, ℕ, zero, suc, Bool, true, false, cond, Result, Ok, Err, refl}
use Rattle.std.proofs.Common.{sym, ◌∙◌, ap}
use Rattle.irc_outbox.specs.declared.wire.Got.{Got}
use Rattle.irc_outbox.specs.declared.wire.Got.TheVariants.{Bytes, Later, End}
use Rattle.irc_outbox.specs.declared.wire.IoFault.{IoFault}
use Rattle.irc_outbox.specs.declared.wire.IoFault.TheVariants.{Failed}
use Rattle.irc_outbox.specs.Memory.{WireTold}
use Rattle.irc_outbox.specs.Serving.{got}

pub refuses_so : (fails : Bool) (n : ℕ) → fails ≡ true
    → Err Failed ≡ cond {A = Result ℕ IoFault} fails (Err Failed) (Ok n)
refuses_so fails n e = ap (λ b. cond b (Err Failed) (Ok n)) (sym e)

pub takes_so : (fails : Bool) (n m : ℕ) → fails ≡ false → m ≡ n
    → Ok m ≡ cond {A = Result ℕ IoFault} fails (Err Failed) (Ok n)
takes_so fails n m e is = ap Ok is ∙ ap (λ b. cond b (Err Failed) (Ok n)) (sym e)

pub read_refuses : (fails : Bool) (answer : Got) → fails ≡ true
    → Err Failed ≡ cond {A = Result Got IoFault} fails (Err Failed) (Ok answer)
read_refuses fails answer e = ap (λ b. cond b (Err Failed) (Ok answer)) (sym e)

read_so : (fails : Bool) (answer other : Got) → fails ≡ false → other ≡ answer
    → Ok other ≡ cond {A = Result Got IoFault} fails (Err Failed) (Ok answer)
read_so fails answer other e is = ap Ok is ∙ ap (λ b. cond b (Err Failed) (Ok answer)) (sym e)

end_so : (t : WireTold) → t.ended ≡ true → End ≡ got 0 t
end_so t ended = ap (λ b. cond b End Later) (sym ended)

later_so : (t : WireTold) → t.ended ≡ false → Later ≡ got 0 t
later_so t ended = ap (λ b. cond b End Later) (sym ended)

some_so : (n : ℕ) (t : WireTold) → (n ≡ 0 → ⊥) → Bytes n ≡ got n t
some_so zero t some = absurd (some refl)
some_so (suc n) t some = refl

pub ends_so : (fails : Bool) (n : ℕ) (t : WireTold) → fails ≡ false → n ≡ 0 → t.ended ≡ true
    → Ok End ≡ cond {A = Result Got IoFault} fails (Err Failed) (Ok (got n t))
ends_so fails n t e none ended =
    read_so fails (got n t) End e (end_so t ended ∙ ap (λ m. got m t) (sym none))

pub waits_so : (fails : Bool) (n : ℕ) (t : WireTold) → fails ≡ false → n ≡ 0 → t.ended ≡ false
    → Ok Later ≡ cond {A = Result Got IoFault} fails (Err Failed) (Ok (got n t))
waits_so fails n t e none ended =
    read_so fails (got n t) Later e (later_so t ended ∙ ap (λ m. got m t) (sym none))

pub gives_so : (fails : Bool) (n count : ℕ) (t : WireTold) → fails ≡ false → count ≡ n → (count ≡ 0
    → ⊥) → Ok (Bytes count) ≡ cond {A = Result Got IoFault} fails (Err Failed) (Ok (got n t))
gives_so fails n count t e is some =
    read_so fails (got n t) (Bytes count) e (some_so count t some ∙ ap (λ m. got m t) is)
