-- What holds of a command that asks.
use Rattle.std.proofs.Common.{◌≡◌, List, []}
use Rattle.irc_users.specs.declared.user.User.{User}
use Rattle.irc_room.specs.Room.{Room}
use Rattle.irc_acts.specs.declared.act.Act.{Act}
use Rattle.irc_acts.specs.Acts.{effects_among}
use Rattle.irc_acts.specs.OtherInvitations.{AreAlike}

-- its steps are answers, and the same whoever is invited
pub record OnlyAsks (steps : User → Room → List Act) : Type 0 where
  pub answers : (me : User) (room : Room) → effects_among (steps me room) ≡ []
  pub alike : (me : User) (room other : Room) → AreAlike room other
      → steps me room ≡ steps me other
