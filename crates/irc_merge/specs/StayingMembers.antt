-- Who is at one server keeps its memberships when another server is lost.
use Rattle.std.specs.Prelude.{◌≡◌, ℕ, true, false, Some, List}
use Rattle.irc_names.specs.Spellings.{exactly_same}
use Rattle.irc_names.specs.Tables.{row}
use Rattle.irc_users.specs.declared.user.User.{User}
use Rattle.irc_users.specs.UserTable.{is_home}
use Rattle.irc_room.specs.Readers.{flags_at}
use Rattle.irc_room.specs.Room.{Room, IsWellFormed}
use Rattle.irc_merge.specs.Split.{lost_home}

-- its flags in each channel, and whether it is a member at all
abbrev pub MembersStay : Type 0
MembersStay = (text home other : List ℕ) (room : Room) (nick channel : List ℕ) (user : User)
    → exactly_same home other ≡ false → IsWellFormed room
    → row room.users nick ≡ Some user → is_home other user ≡ true
    → flags_at (lost_home text room home) nick channel ≡ flags_at room nick channel
