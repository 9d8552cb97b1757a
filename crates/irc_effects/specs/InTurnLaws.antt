-- What holds of some effects, one after another.
use Rattle.std.proofs.Common.{◌≡◌, List, [], ◌∷◌, ◌++◌, refl}
use Rattle.irc_effects.specs.declared.effect.Effect.{Effect}
use Rattle.irc_effects.specs.Room.{Room}
use Rattle.irc_effects.specs.After.{after}
use Rattle.irc_effects.specs.InTurn.{after_all, EachInTurn}

pub after_all-append : (room : Room) (a b : List Effect)
    → after_all room (a ++ b) ≡ after_all (after_all room a) b
after_all-append room [] b = refl
after_all-append room (effect ∷ a) b = after_all-append (after room effect) a b

pub each-append : (Q : Room → Effect → Type 0) (room : Room) (a b : List Effect)
    → EachInTurn Q room a → EachInTurn Q (after_all room a) b → EachInTurn Q room (a ++ b)
each-append Q room [] b one other = other
each-append Q room (effect ∷ a) b one other =
    record { now = one.now; later = each-append Q (after room effect) a b one.later other }

-- what each effect is, it is another way too
pub each-so : (P Q : Room → Effect → Type 0)
    → ((room : Room) (effect : Effect) → P room effect → Q room effect)
    → (room : Room) (effects : List Effect) → EachInTurn P room effects → EachInTurn Q room effects
each-so P Q so room [] all = tt
each-so P Q so room (effect ∷ effects) all = record {
  now = so room effect all.now;
  later = each-so P Q so (after room effect) effects all.later;
}

-- what each such effect keeps, all keep
pub each-keeps : (P : Room → Effect → Type 0) (S : Room → Type 0) → ((room : Room) (effect : Effect)
    → P room effect → S room → S (after room effect)) → (room : Room) (effects : List Effect)
    → EachInTurn P room effects → S room → S (after_all room effects)
each-keeps P S keeps room [] all first = first
each-keeps P S keeps room (effect ∷ effects) all first =
    each-keeps P S keeps (after room effect) effects all.later (keeps room effect all.now first)
