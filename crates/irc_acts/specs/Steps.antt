-- What a call gives and what it adds, as clauses say it.
use Rattle.std.specs.Prelude.{◌≡◌, List, ◌++◌, Result, IfOk, OnOk}
use Rattle.std.specs.Global.{Vec}
use Rattle.std.specs.declared.alloc.AllocError.{AllocError}
use Rattle.irc_names.specs.Tables.{Table}
use Rattle.irc_users.specs.declared.user.User.{User}
use Rattle.irc_room.specs.Room.{Room}
use Rattle.irc_acts.specs.declared.act.Act.{Act}
use Rattle.irc_acts.specs.declared.context.Context.{Context}

-- a call gives just these steps, unless memory runs out
abbrev pub Yields : Result (Vec Act) AllocError → List Act → Type 0
Yields result acts = IfOk result (λ steps. steps.items ≡ acts)

-- a call makes the new of the old by appending these, unless memory runs out
abbrev pub AddsTo : {X : Type 0} → Result (Unit {0}) AllocError → Vec X → Vec X → List X → Type 0
AddsTo result old new more = OnOk result (new.items ≡ old.items ++ more)

-- what is defined of a room and a user, of the room of a context and the user whose command it is
abbrev pub by_room : {X : Type 0} → Context → (Room → User → X) → X
by_room context defined = defined context.room.now.room context.me.now

-- what is defined of a room's users and one of them, of those of a context
abbrev pub among_users : {X : Type 0} → Context → (Table User → User → X) → X
among_users context defined = defined context.room.now.room.users context.me.now
