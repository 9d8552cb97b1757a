-- A room: users and channels, each under the fold of its name (RFC 2811 sections 2 and 3). A member
-- stands in its channel's row.
use Rattle.std.specs.Prelude.{◌≡◌, ℕ, true, false, is_some, Some, List}
use Rattle.irc_names.specs.Fold.{key}
use Rattle.irc_names.specs.Tables.{Table, row}
use Rattle.irc_users.specs.declared.user.User.{User}
use Rattle.irc_channels.specs.declared.channel.Channel.{Channel}
use Rattle.irc_modes.specs.Modes.{is_nil}
use Rattle.std.specs.FinMap.{keys}

pub record Room : Type 0 where
  pub users : Table User
  pub channels : Table Channel

-- a channel's row stands under its name's fold; its members and who is invited are users; it has a
-- member
pub record IsSoundRow (users : Table User) (fold : List ℕ) (channel : Channel) : Type 0 where
  pub named : key channel.name ≡ fold
  pub members_known : (nick : List ℕ) → is_some (row channel.members nick) ≡ true
      → is_some (row users nick) ≡ true
  pub invited_known : (nick : List ℕ) → is_some (row channel.invited nick) ≡ true
      → is_some (row users nick) ≡ true
  pub some_member : is_nil (keys channel.members) ≡ false

pub record IsWellFormed (room : Room) : Type 0 where
  pub users_named : (nick : List ℕ) (user : User) → row room.users nick ≡ Some user
      → key user.nick ≡ nick
  pub channels_sound : (fold : List ℕ) (channel : Channel) → row room.channels fold ≡ Some channel
      → IsSoundRow room.users fold channel
