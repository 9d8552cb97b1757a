-- Limits of two rooms that become one, and of one that comes apart.
use Rattle.std.specs.Prelude.{List, ℕ}
use Rattle.irc_room.specs.Room.{Room, IsWellFormed}
use Rattle.irc_room.specs.Limits.{IsWithinLimits}
use Rattle.irc_merge.specs.Laws.{CanBeTold}
use Rattle.irc_merge.specs.Merge.{merge}
use Rattle.irc_merge.specs.Split.{split}

-- two rooms within limits become one that is
abbrev pub MergeIsWithinLimits : Type 0
MergeIsWithinLimits = (one other : Room) → IsWellFormed one → IsWellFormed other
    → IsWithinLimits one → IsWithinLimits other
    → IsWithinLimits (merge one other)

-- and so is what a split leaves of one
abbrev pub SplitIsWithinLimits : Type 0
SplitIsWithinLimits = (text : List ℕ) (homes : List (List ℕ)) (room : Room) → IsWellFormed room
    → IsWithinLimits room
    → IsWithinLimits (split text homes room)

-- the modes of a room within limits can be told
abbrev pub WithinLimitsIsTold : Type 0
WithinLimitsIsTold = (room : Room) → IsWithinLimits room → CanBeTold room
