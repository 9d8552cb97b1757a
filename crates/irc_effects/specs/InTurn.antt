-- Some effects, one after another.
use Rattle.std.specs.Prelude.{List, [], ◌∷◌, ⊤}
use Rattle.irc_effects.specs.declared.effect.Effect.{Effect}
use Rattle.irc_effects.specs.Room.{Room}
use Rattle.irc_effects.specs.After.{after}

-- the room after all of these effects
abbrev pub after_all : Room → List Effect → Room
after_all room [] = room
after_all room (effect ∷ effects) = after_all (after room effect) effects

-- the first is so now, and what is left holds after it
pub record IsSoFirst (first left : Type 0) : Type 0 where
  pub now : first
  pub later : left

-- each of these effects is so in the room that those before it have left
abbrev pub EachInTurn : (Room → Effect → Type 0) → Room → List Effect → Type 0
EachInTurn Q room [] = ⊤
EachInTurn Q room (effect ∷ effects) =
    IsSoFirst (Q room effect) (EachInTurn Q (after room effect) effects)
