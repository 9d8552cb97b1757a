-- What is so of each line of a burst, whoever reads it: it tells of what the room of the server
-- that tells has.
use Rattle.std.specs.Prelude.{◌≡◌, ◌≢◌, ◌≤◌, ℕ, Bool, true, false, Some, List, [], length}
use Rattle.std.specs.List.{flat_map, AllByRecursion}
use Rattle.irc_channels.specs.declared.flags.Flags.{Flags}
use Rattle.irc_modes.specs.declared.modes.ModeChange.{ModeChange}
use Rattle.irc_modes.specs.Readable.{AreReadable}
use Rattle.irc_names.specs.Fold.{key}
use Rattle.irc_names.specs.Names.{IsChannel}
use Rattle.irc_names.specs.Tables.{row}
use Rattle.irc_users.specs.declared.user.User.{User}
use Rattle.irc_users.specs.declared.user_change.UserChange.{UserChange}
use Rattle.irc_users.specs.ChangesTold.{as_introduced}
use Rattle.irc_users.specs.UserTable.{is_shown}
use Rattle.irc_room.specs.After.{titled_by}
use Rattle.irc_room.specs.effect.Effect.TheVariants.{AddUser, ChangeUser}
use Rattle.irc_room.specs.InTurn.{EachInTurn}
use Rattle.irc_room.specs.Limits.{IsBanCarried, IsCarriedText, IsChangeWithin, KeepsLimits}
use Rattle.irc_room.specs.Room.{Room}
use Rattle.irc_room.specs.Sendable.{IsStoredNick, IsSentChange, IsSentUser}
use Rattle.irc_merge.specs.Bursts.{members_a_line, home_passes}
use Rattle.irc_merge.specs.CanBeDone.{DoesSomething}
use Rattle.irc_merge.specs.Deeds.{Deed, does, brings, sets, tops, member_comes}

-- a user of the other room, as the line that introduces it tells
pub record IsTheirUser (other : Room) (user : User) : Type 0 where
  pub their : User
  pub there : row other.users (key user.nick) ≡ Some their
  pub bare : as_introduced their ≡ user
  pub sent : IsSentUser user

-- what a user of the other room has set beside that; nobody is shown it
pub record IsTheirChange (other : Room) (nick : List ℕ) (change : UserChange) : Type 0 where
  pub their : User
  pub there : row other.users (key nick) ≡ Some their
  pub stored : their.nick ≡ nick
  pub keeps : IsChangeWithin change
  pub unseen : is_shown change ≡ false

-- a member by the nickname that a user of the other room has
pub record IsTheirMember (other : Room) (member : List ℕ × Flags) : Type 0 where
  pub user : User
  pub there : row other.users (key member.0) ≡ Some user
  pub stored : user.nick ≡ member.0

pub record AreTheirMembers (other : Room) (channel : List ℕ)
    (members : List (List ℕ × Flags)) : Type 0 where
  pub named : IsChannel channel
  pub some : members ≢ []
  pub few : length members ≤ members_a_line
  pub each : AllByRecursion (IsTheirMember other) members

-- changes with words that are no nicknames
pub record AreTheirChanges (channel : List ℕ) (changes : List ModeChange) : Type 0 where
  pub named : IsChannel channel
  pub readable : AreReadable changes
  pub sent : (room : Room) → AllByRecursion (IsSentChange room) changes
  pub kept : AllByRecursion (λ (c : ModeChange). IsBanCarried c.letter c.word) changes

pub record IsTheirTopic (channel topic : List ℕ) : Type 0 where
  pub named : IsChannel channel
  pub carried : IsCarriedText topic

abbrev pub IsTold : List ℕ → Room → Deed → Type 0
IsTold server other (does (AddUser user)) = IsTheirUser other user
IsTold server other (does (ChangeUser nick change)) = IsTheirChange other nick change
IsTold server other (brings by channel members) =
    (by ≡ server) × AreTheirMembers other channel members
IsTold server other (sets by channel changes) = (by ≡ server) × AreTheirChanges channel changes
IsTold server other (tops by channel topic) = (by ≡ server) × IsTheirTopic channel topic
IsTold server other deed = ⊥

-- the user of the other room under a fold, whatever is known of what it has set
pub record IsTheirs (other : Room) (fold : List ℕ) (user : User) : Type 0 where
  pub their : User
  pub there : row other.users fold ≡ Some their
  pub same_nick : user.nick ≡ their.nick

-- whoever is far in the room that reads is the user of the other room who has that nickname
abbrev pub AreTheirs : (List ℕ → Bool) → Room → Room → Type 0
AreTheirs far other room = (fold : List ℕ) (user : User) → row room.users fold ≡ Some user
    → far user.home ≡ true → IsTheirs other fold user

-- those of some members who come to a channel, once that is spelled as their line has it
pub record AreComing (behind : List ℕ → Bool) (room : Room) (channel : List ℕ)
    (members : List (List ℕ × Flags)) : Type 0 where
  pub stored : AllByRecursion (λ (m : List ℕ × Flags). IsStoredNick room m.0) members
  pub far : AllByRecursion
      (λ (m : List ℕ × Flags). home_passes behind room.users (key m.0) ≡ true) members
  pub few : length members ≤ members_a_line
  pub done : EachInTurn DoesSomething (titled_by channel room)
      (flat_map (member_comes channel) members)
  pub within : AllByRecursion KeepsLimits (flat_map (member_comes channel) members)
