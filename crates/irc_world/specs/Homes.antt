-- Whose users a client's doings make: those of its own server alone.
use Rattle.std.specs.Prelude.{◌≡◌, ℕ, Bool, true, Some, List}
use Rattle.irc_names.specs.Tables.{row}
use Rattle.irc_users.specs.declared.user.User.{User}
use Rattle.irc_room.specs.Room.{Room}
use Rattle.irc_stage.specs.RoomMachine.{RoomMachine}
use Rattle.irc_stage.specs.Handle.{ClientEvent, handled}

-- the homes of all users of a room pass a test
abbrev pub HomesPass : (List ℕ → Bool) → Room → Type 0
HomesPass passes room = (fold : List ℕ) (user : User) → row room.users fold ≡ Some user
    → passes user.home ≡ true

-- Whatever test the homes of a room's users pass, they pass it still after a client of a server
-- that passes it has done something.
abbrev pub ClientsBringOwnUsers : Type 0
ClientsBringOwnUsers = (machine : RoomMachine) (client_event : ClientEvent) (passes : List ℕ → Bool)
    → HomesPass passes machine.room
    → passes machine.place.name ≡ true
    → HomesPass passes (handled machine client_event).state.room
