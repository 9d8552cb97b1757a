-- When two rooms hold the same: the same users, and channels that are the same but for who is
-- invited, which each user's own server alone keeps. Rooms with one document do.
--
--   a.net   al an operator of #c, key x, and bo invited     b.net   the same, and nobody invited
--   they hold the same; if it were #C at b.net, or no key, or al no operator, they would not
use Rattle.std.specs.Prelude.{◌≡◌, ℕ, Some, is_some, List}
use Rattle.irc_names.specs.Tables.{row}
use Rattle.irc_channels.specs.declared.channel.Channel.{Channel}
use Rattle.irc_effects.specs.Limits.{IsWithinLimits}
use Rattle.irc_effects.specs.Room.{Room, IsWellFormed}
use Rattle.irc_room_edits.specs.Documents.{document}

-- one channel at two servers: how it is spelled, its modes with its bans as they are spelled, its
-- topic, and its members with their flags
pub record AreOneChannel (left right : Channel) : Type 0 where
  pub name : left.name ≡ right.name
  pub modes : left.modes ≡ right.modes
  pub topic : left.topic ≡ right.topic
  pub members : left.members ≡ right.members

-- `there`: a channel is there in both rooms or in neither
pub record HoldTheSame (one other : Room) : Type 0 where
  pub users : one.users ≡ other.users
  pub there : (fold : List ℕ) → is_some (row one.channels fold) ≡ is_some (row other.channels fold)
  pub channels : (fold : List ℕ) (left right : Channel) → row one.channels fold ≡ Some left
      → row other.channels fold ≡ Some right → AreOneChannel left right

-- Rooms with one document hold the same.
abbrev pub DocumentsTellRooms : Type 0
DocumentsTellRooms = (one other : Room) → IsWellFormed one → IsWellFormed other
    → IsWithinLimits one → IsWithinLimits other → document one ≡ document other
    → HoldTheSame one other
