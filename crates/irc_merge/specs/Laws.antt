-- What holds of rooms that become one, and of one that comes apart.
use Rattle.std.specs.Prelude.{◌≡◌, ℕ, Bool, true, false, not, ◌&&◌, Some, List, [], ◌∷◌, ◌⊎◌}
use Rattle.std.specs.Prelude.{filter, is_some}
use Rattle.std.specs.List.{list_any}
use Rattle.irc_names.specs.Tables.{row}
use Rattle.irc_users.specs.declared.user.User.{User}
use Rattle.irc_channels.specs.declared.channel.Channel.{Channel}
use Rattle.irc_modes.specs.ModesSet.{AreWithinLimits}
use Rattle.irc_names.specs.Spellings.{exactly_same}
use Rattle.irc_room.specs.Readers.{flags_at, is_invited_at}
use Rattle.irc_room.specs.Room.{Room, IsWellFormed}
use Rattle.irc_merge.specs.ShownAlong.{shown_along}
use Rattle.irc_merge.specs.Quits.{users_at}
use Rattle.irc_merge.specs.Deeds.{after_deeds, shown_by_all}
use Rattle.irc_merge.specs.Bursts.{burst, burst_of, side_of}
use Rattle.irc_merge.specs.BurstRead.{is_new_member, new_members, read_all}
use Rattle.irc_merge.specs.Merge.{AreAlike, merge, one_channel, uninvited}
use Rattle.irc_merge.specs.MergeShown.{merge_shown}
use Rattle.irc_names.specs.Fold.{key, same}
use Rattle.irc_channels.specs.declared.flags.Flags.{Flags}
use Rattle.irc_merge.specs.Split.{lost_home, lost_homes, split, split_effects, squits, are_distinct}

-- which half is named first makes no difference
abbrev pub MergeIsEven : Type 0
MergeIsEven = (one other : Room) → IsWellFormed one → IsWellFormed other
    → merge one other ≡ merge other one

-- no nickname is held in both of two rooms
abbrev pub ShareNoNickname : Room → Room → Type 0
ShareNoNickname one other = (fold : List ℕ)
    → (is_some (row one.users fold) && is_some (row other.users fold)) ≡ false

-- Of three rooms it makes no difference which two become one first, where no nickname is held in
-- two of them. (Who is killed by one link is no longer there to be killed by the next.)
abbrev pub MergeAssociates : Type 0
MergeAssociates = (one next last : Room) → IsWellFormed one → IsWellFormed next → IsWellFormed last
    → ShareNoNickname one next → ShareNoNickname one last → ShareNoNickname next last
    → merge (merge one next) last ≡ merge one (merge next last)

-- two well-formed rooms become one that is well formed
abbrev pub MergeIsWellFormed : Type 0
MergeIsWellFormed = (one other : Room) → IsWellFormed one → IsWellFormed other
    → IsWellFormed (merge one other)

abbrev pub SplitIsWellFormed : Type 0
SplitIsWellFormed = (text : List ℕ) (homes : List (List ℕ)) (room : Room) → IsWellFormed room
    → IsWellFormed (split text homes room)

-- who is at a server stays when another is lost
abbrev pub OthersStay : Type 0
OthersStay = (text : List ℕ) (home other : List ℕ) (room : Room) → exactly_same home other ≡ false
    → IsWellFormed room
    → users_at other (lost_home text room home) ≡ users_at other room

-- servers that are lost one by one leave what the split leaves
abbrev pub HomesOneByOne : Type 0
HomesOneByOne = (text : List ℕ) (homes : List (List ℕ)) (room : Room) → are_distinct homes ≡ true
    → IsWellFormed room
    → lost_homes text room homes ≡ split text homes room

-- and so do the SQUITs of these servers, and they show to each user what the split shows
pub record IsSplitBy (server text : List ℕ) (homes : List (List ℕ)) (room : Room) : Type 0 where
  pub room_left : after_deeds room (squits server text homes) ≡ split text homes room
  pub shown : (viewer : List ℕ) → shown_by_all viewer room (squits server text homes)
      ≡ shown_along viewer room (split_effects text homes room)

abbrev pub SquitsSplit : Type 0
SquitsSplit = (server text : List ℕ) (homes : List (List ℕ)) (room : Room)
    → are_distinct homes ≡ true → IsWellFormed room
    → IsSplitBy server text homes room

-- the users of one room have their homes on this side of a link, those of another behind it
pub record AreApart (far : List ℕ → Bool) (room other : Room) : Type 0 where
  pub near : (fold : List ℕ) (user : User) → row room.users fold ≡ Some user → far user.home ≡ false
  pub behind : (fold : List ℕ) (user : User) → row other.users fold ≡ Some user
      → far user.home ≡ true

-- The modes of each channel can be told, and what is told can be judged by them: keys and limits
-- keep their rules, and bans are in order.
pub record CanBeTold (room : Room) : Type 0 where
  pub modes : (fold : List ℕ) (channel : Channel) → row room.channels fold ≡ Some channel
      → AreWithinLimits channel.modes

-- A burst that is read makes the room what both halves become. Invitations alone are not told.
abbrev pub BurstReadIsMerge : Type 0
BurstReadIsMerge = (own server : List ℕ) (far : List ℕ → Bool) (room other : Room)
    → IsWellFormed room → IsWellFormed other → CanBeTold room → CanBeTold other
    → AreApart far room other
    → after_deeds room (read_all own far room (burst server other)) ≡ merge room (uninvited other)

-- where all homes pass, all that a room has is told
abbrev pub WholeSide : Type 0
WholeSide = (room : Room) → IsWellFormed room → side_of (λ home. true) room ≡ room

-- the side of a well-formed room is well formed
abbrev pub SideIsWellFormed : Type 0
SideIsWellFormed = (passes : List ℕ → Bool) (room : Room) → IsWellFormed room
    → IsWellFormed (side_of passes room)

-- so the same is said of a burst that tells of some homes alone
abbrev pub SideReadIsMerge : Type 0
SideReadIsMerge = (own server : List ℕ) (far passes : List ℕ → Bool) (room other : Room)
    → IsWellFormed room → IsWellFormed other → CanBeTold room → CanBeTold other
    → AreApart far room (side_of passes other)
    → after_deeds room (read_all own far room (burst_of server passes other))
    ≡ merge room (uninvited (side_of passes other))

-- A burst shows to each user of this side what the merge shows.
abbrev pub ShownIsMergeShown : Type 0
ShownIsMergeShown = (own server : List ℕ) (far : List ℕ → Bool) (room other : Room)
    → IsWellFormed room → IsWellFormed other → CanBeTold room → CanBeTold other
    → AreApart far room other
    → (viewer : List ℕ) (user : User) → row room.users (key viewer) ≡ Some user
    → shown_by_all viewer room (read_all own far room (burst server other))
    ≡ merge_shown room other viewer

-- a room has no user, member, flag or invitation that another has not, and its channels have their
-- names, modes and topics of that one
pub record ComesOf (room new : Room) : Type 0 where
  pub users : (fold : List ℕ) (user : User) → row new.users fold ≡ Some user
      → row room.users fold ≡ Some user
  pub channels : (fold : List ℕ) (channel : Channel) → row new.channels fold ≡ Some channel
      → (before : Channel) × ((row room.channels fold ≡ Some before) × AreAlike channel before)
  pub members : (nick fold : List ℕ) (flags : Flags) → flags_at new nick fold ≡ Some flags
      → flags_at room nick fold ≡ Some flags
  pub invited : (nick fold : List ℕ) → is_invited_at new nick fold ≡ true
      → is_invited_at room nick fold ≡ true

-- a channel is there in one of two rooms with its name, modes and topic, or is what the two of both
-- are joined to
pub data IsOfBoth (one other : Room) (fold : List ℕ) (channel : Channel) : Type 0 where
  of_one : (before : Channel) → row one.channels fold ≡ Some before → AreAlike channel before
      → IsOfBoth one other fold channel
  of_other : (before : Channel) → row other.channels fold ≡ Some before → AreAlike channel before
      → IsOfBoth one other fold channel
  of_both : (before theirs : Channel)
      → row one.channels fold ≡ Some before → row other.channels fold ≡ Some theirs
      → AreAlike channel (one_channel before theirs) → IsOfBoth one other fold channel

-- the same of two rooms, of one, of the other or of both
pub record ComesOfBoth (one other new : Room) : Type 0 where
  pub users : (fold : List ℕ) (user : User) → row new.users fold ≡ Some user
      → (row one.users fold ≡ Some user) ⊎ (row other.users fold ≡ Some user)
  pub channels : (fold : List ℕ) (channel : Channel) → row new.channels fold ≡ Some channel
      → IsOfBoth one other fold channel
  pub members : (nick fold : List ℕ) (flags : Flags) → flags_at new nick fold ≡ Some flags
      → (flags_at one nick fold ≡ Some flags) ⊎ (flags_at other nick fold ≡ Some flags)
  pub invited : (nick fold : List ℕ) → is_invited_at new nick fold ≡ true
      → (is_invited_at one nick fold ≡ true) ⊎ (is_invited_at other nick fold ≡ true)

-- so what holds of each user and of each member, and of a channel's name, modes and topic also when
-- two are joined, holds after a merge; and after a split
abbrev pub MergeHasNothingNew : Type 0
MergeHasNothingNew = (one other : Room) → IsWellFormed one → IsWellFormed other
    → ComesOfBoth one other (merge one other)

abbrev pub SplitHasNothingNew : Type 0
SplitHasNothingNew = (text : List ℕ) (homes : List (List ℕ)) (room : Room) → IsWellFormed room
    → ComesOf room (split text homes room)

-- no nickname stands twice in a line of members
abbrev pub no_member_twice : List (List ℕ × Flags) → Bool
no_member_twice [] = true
no_member_twice (member ∷ members) =
    not (list_any (λ (other : List ℕ × Flags). same member.0 other.0) members)
    && no_member_twice members

-- then each may be judged by the room as it was before the line
abbrev pub MembersAtOnce : Type 0
MembersAtOnce = (far : List ℕ → Bool) (room : Room) (channel : List ℕ)
    (members : List (List ℕ × Flags)) → no_member_twice members ≡ true
    → new_members far room channel members ≡ filter (is_new_member far room channel) members
