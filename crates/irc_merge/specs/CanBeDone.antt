-- What is read of a burst, as effects on the room: each can be done when its turn comes, and does
-- something.
use Rattle.std.specs.Prelude.{◌≡◌, ℕ, Bool, false, ⊤, List, [], ◌∷◌}
use Rattle.std.specs.List.{AllByRecursion}
use Rattle.irc_room.specs.effect.Effect.{Effect}
use Rattle.irc_room.specs.effect.Effect.TheVariants.{AddUser, ChangeUser}
use Rattle.irc_room.specs.Room.{Room, IsWellFormed}
use Rattle.irc_room.specs.Effects.{is_idle, IsPossible}
use Rattle.irc_room.specs.InTurn.{EachInTurn}
use Rattle.irc_merge.specs.Deeds.{Deed, does, brings, sets, tops, titled, effects_of, after_deed}
use Rattle.irc_merge.specs.BurstRead.{read_all}

-- an effect is possible, and not idle
pub record DoesSomething (room : Room) (effect : Effect) : Type 0 where
  pub possible : IsPossible room effect
  pub busy : is_idle room effect ≡ false

-- each effect of some deeds, one after another, does something when its turn comes
abbrev pub DeedsDo : Room → List Deed → Type 0
DeedsDo room [] = ⊤
DeedsDo room (deed ∷ deeds) =
    EachInTurn DoesSomething (titled room deed) (effects_of room deed)
    × DeedsDo (after_deed room deed) deeds

-- the lines of a burst
abbrev pub IsOfBurst : Deed → Type 0
IsOfBurst (does (AddUser user)) = ⊤
IsOfBurst (does (ChangeUser nick change)) = ⊤
IsOfBurst (brings server channel members) = ⊤
IsOfBurst (sets server channel changes) = ⊤
IsOfBurst (tops server channel topic) = ⊤
IsOfBurst other = ⊥

-- whatever the lines of a burst say
abbrev pub LinesCanBeDone : Type 0
LinesCanBeDone = (own : List ℕ) (far : List ℕ → Bool) (room : Room) (deeds : List Deed)
    → AllByRecursion IsOfBurst deeds → IsWellFormed room
    → DeedsDo room (read_all own far room deeds)
