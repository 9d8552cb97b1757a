-- Whose doing an effect is. What a user's line is decided to do, that user does.
use Rattle.std.specs.Prelude.{◌≡◌, ℕ, Some, List}
use Rattle.std.specs.List.{AllByRecursion}
use Rattle.irc_names.specs.Fold.{key}
use Rattle.irc_names.specs.Tables.{row}
use Rattle.irc_line.specs.Messages.{Parsed}
use Rattle.irc_users.specs.declared.user.User.{User}
use Rattle.irc_room.specs.effect.Effect.{Effect}
use Rattle.irc_room.specs.Room.{Room}
use Rattle.irc_room.specs.Effects.{doer_of}
use Rattle.irc_routes.specs.Place.{Place}
use Rattle.irc_acts.specs.Acts.{effects_among}
use Rattle.irc_commands.specs.Decide.{decide}

abbrev pub IsDoneBy : User → Effect → Type 0
IsDoneBy me effect = doer_of effect ≡ Some me.nick

-- under the nickname that it has when the line is read, as it is stored
abbrev pub DecidedByItself : Type 0
DecidedByItself = (room : Room) (place : Place) (who : List ℕ) (message : Parsed) (me : User)
    → row room.users (key who) ≡ Some me
    → AllByRecursion (IsDoneBy me) (effects_among (decide room place who message).steps)
