-- Which steps say who is a user, and by which nickname: it is one from when it registers to when it
-- quits.
use Rattle.std.specs.Prelude.{◌≡◌, ℕ, Bool, true, false, not, Option, Some, List, ◌∷◌}
use Rattle.std.specs.List.{list_any}
use Rattle.irc_names.specs.Fold.{key, same}
use Rattle.irc_names.specs.Tables.{row}
use Rattle.irc_line.specs.Messages.{Parsed}
use Rattle.irc_users.specs.declared.user.User.{User}
use Rattle.irc_room.specs.effect.Effect.TheVariants.{AddUser, Rename, Quit}
use Rattle.irc_room.specs.Room.{Room, IsWellFormed}
use Rattle.irc_routes.specs.Place.{Place}
use Rattle.irc_acts.specs.declared.act.Act.{Act}
use Rattle.irc_acts.specs.declared.act.Act.TheVariants.{Do}
use Rattle.irc_commands.specs.declared.pending.Pending.{Pending}
use Rattle.irc_commands.specs.Decide.{decide}
use Rattle.irc_commands.specs.Register.{register}

-- whether a step makes somebody a user
abbrev pub adds_user : Act → Bool
adds_user (Do (AddUser user)) = true
adds_user other = false

-- whether a step makes somebody a user, or a user nobody
abbrev pub adds_or_ends : Act → Bool
adds_or_ends (Do (Quit nick text)) = true
adds_or_ends act = adds_user act

-- whether a step gives another nickname to a user who is not the user of this one
abbrev pub renames_other : List ℕ → Act → Bool
renames_other who (Do (Rename nick new)) = not (same nick who)
renames_other who other = false

-- whether a step is a change of the room, or a text that is said in it
abbrev pub is_effect : Act → Bool
is_effect (Do effect) = true
is_effect other = false

-- A line of a user makes nobody a user.
abbrev pub DecidedAddsNobody : Type 0
DecidedAddsNobody = (room : Room) (place : Place) (who : List ℕ) (message : Parsed)
    → list_any adds_user (decide room place who message).steps ≡ false

-- It gives another nickname to nobody but that user.
abbrev pub OnlyItselfIsRenamed : Type 0
OnlyItselfIsRenamed = (room : Room) (place : Place) (who : List ℕ) (message : Parsed)
    → IsWellFormed room
    → list_any (renames_other who) (decide room place who message).steps ≡ false

-- While the client stays, its user does, and nobody else becomes a user or ceases to be one;
-- whoever is kicked from a channel is a user still.
abbrev pub WhoStaysIsUser : Type 0
WhoStaysIsUser = (room : Room) (place : Place) (who : List ℕ) (message : Parsed)
    → (decide room place who message).close ≡ false
    → list_any adds_or_ends (decide room place who message).steps ≡ false

-- these steps are a Quit of the user of a nickname, and then nothing that changes the room
pub record QuitFirst (room : Room) (who : List ℕ) (steps : List Act) : Type 0 where
  pub me : User
  pub reason : List ℕ
  pub behind : List Act
  pub is_user : row room.users (key who) ≡ Some me
  pub steps_are : steps ≡ Do (Quit me.nick reason) ∷ behind
  pub no_more : list_any is_effect behind ≡ false

-- A client that is closed has quit.
abbrev pub WhoIsClosedQuits : Type 0
WhoIsClosedQuits = (room : Room) (place : Place) (who : List ℕ) (message : Parsed)
    → (decide room place who message).close ≡ true
    → QuitFirst room who (decide room place who message).steps

-- these steps add a user of this server whose nickname this is, and then change the room no more
pub record AddsFirst (place : Place) (nick : Option (List ℕ)) (steps : List Act) : Type 0 where
  pub user : User
  pub behind : List Act
  pub steps_are : steps ≡ Do (AddUser user) ∷ behind
  pub is_home : user.home ≡ place.name
  pub is_nick : nick ≡ Some (user.nick)
  pub no_more : list_any is_effect behind ≡ false

-- A connection that is registered becomes a user of its server, with the nickname that it has then.
abbrev pub RegisteredIsAdded : Type 0
RegisteredIsAdded = (room : Room) (place : Place) (pending : Pending) (message : Parsed)
    → (register room place pending message).registered ≡ true
    → AddsFirst place (register room place pending message).pending.nick
    (register room place pending message).steps

-- One that is not registered changes nothing of the room.
abbrev pub UnregisteredChangesNothing : Type 0
UnregisteredChangesNothing = (room : Room) (place : Place) (pending : Pending) (message : Parsed)
    → (register room place pending message).registered ≡ false
    → list_any is_effect (register room place pending message).steps ≡ false

-- One that is registered is not closed.
abbrev pub RegisteredStays : Type 0
RegisteredStays = (room : Room) (place : Place) (pending : Pending) (message : Parsed)
    → (register room place pending message).registered ≡ true
    → (register room place pending message).close ≡ false
