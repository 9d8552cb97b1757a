-- What a server has of a room when two halves become one: it keeps the invitations of its own users
-- alone (our own choice).
use Rattle.std.specs.Prelude.{◌≡◌, ℕ, Bool, false, Some, List}
use Rattle.irc_names.specs.Fold.{key}
use Rattle.irc_names.specs.Tables.{row}
use Rattle.irc_users.specs.declared.user.User.{User}
use Rattle.irc_room.specs.Room.{Room, IsWellFormed}
use Rattle.irc_merge.specs.Deeds.{after_deeds, shown_by_all}
use Rattle.irc_merge.specs.Bursts.{burst}
use Rattle.irc_merge.specs.BurstRead.{read_all}
use Rattle.irc_merge.specs.Merge.{merge}
use Rattle.irc_merge.specs.MergeShown.{merge_shown}
use Rattle.irc_merge.specs.Laws.{AreApart, CanBeTold}
use Rattle.irc_room.specs.Invitations.{of_home}

-- A server of this side reads what a server of the other tells of what it has: then it has of the
-- merge what it has to have.
abbrev pub ServerReadsMerge : Type 0
ServerReadsMerge = (own server home theirs : List ℕ) (far : List ℕ → Bool) (room other : Room)
    → IsWellFormed room → IsWellFormed other → CanBeTold room → CanBeTold other
    → AreApart far room other → far home ≡ false
    → after_deeds (of_home home room) (read_all own far (of_home home room)
    (burst server (of_home theirs other))) ≡ of_home home (merge room other)

-- and it shows to each user of this side what the merge shows
abbrev pub ServerShowsMerge : Type 0
ServerShowsMerge = (own server home theirs : List ℕ) (far : List ℕ → Bool) (room other : Room)
    → IsWellFormed room → IsWellFormed other
    → CanBeTold room → CanBeTold other → AreApart far room other
    → (viewer : List ℕ) (user : User) → row room.users (key viewer) ≡ Some user
    → shown_by_all viewer (of_home home room) (read_all own far (of_home home room)
    (burst server (of_home theirs other))) ≡ merge_shown room other viewer
