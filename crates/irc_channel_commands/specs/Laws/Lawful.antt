-- What holds of a command by which its user stays a user, under the nickname that it has.
use Rattle.std.proofs.Common.{◌≡◌, ◌⊎◌, ℕ, Some, List, map}
use Rattle.std.specs.List.{AllByRecursion}
use Rattle.irc_names.specs.Fold.{key}
use Rattle.irc_names.specs.Tables.{row}
use Rattle.irc_line.specs.Carried.{IsCarried}
use Rattle.irc_users.specs.declared.user.User.{User}
use Rattle.irc_room.specs.Limits.{IsWithinLimits}
use Rattle.irc_room.specs.Room.{Room, IsWellFormed}
use Rattle.irc_acts.specs.declared.act.Act.{Act}
use Rattle.irc_acts.specs.CarriedWords.{nick_carried}
use Rattle.irc_acts.specs.Moves.{own_channels}
use Rattle.irc_acts.specs.OtherInvitations.{AreAlikeFor}
use Rattle.irc_acts.specs.Own.{AreOwn}
use Rattle.irc_acts.specs.Sendable.{CarrySendable}
use Rattle.irc_channel_commands.specs.Join.{leaves}

-- In a room within limits, for a user that is there, what the steps carry can be sent, where a line
-- can carry the words that are given.
abbrev pub CarryGiven : User → Room → List (List ℕ) → List Act → Type 0
CarryGiven me room given steps = IsWellFormed room → IsWithinLimits room
    → row room.users (key me.nick) ≡ Some me → AllByRecursion IsCarried given
    → CarrySendable room steps

-- In any room the steps are the user's own, or leave all channels that it is in; what they carry
-- can be sent; and of all invitations they look at those of the user alone.
pub record IsLawful (given : List (List ℕ)) (steps : User → Room → List Act) : Type 0 where
  pub own : (me : User) (room : Room)
      → AreOwn me room (steps me room) ⊎ (steps me room ≡ map (leaves me) (own_channels room me))
  pub carries : (me : User) (room : Room) → CarryGiven me room given (steps me room)
  pub alike : (me : User) (room other : Room) → AreAlikeFor me.nick room other
      → steps me room ≡ steps me other

pub own_nick : (me : User) (room : Room) → IsWithinLimits room
    → row room.users (key me.nick) ≡ Some me → IsCarried me.nick
own_nick me room within mine = nick_carried me.nick (within.users (key me.nick) me mine).nick
