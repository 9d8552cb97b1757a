-- A link that is lost and made again, where nothing was changed meanwhile: what is shown of it, and
-- what is there then.
use Rattle.std.specs.Prelude.{◌≡◌, ℕ, Bool, true, false, not, Option, Some, List, [], ◌++◌}
use Rattle.std.specs.Prelude.{is_some, if◌then◌else◌}
use Rattle.std.specs.List.{flat_map, list_any}
use Rattle.std.specs.Option.{option_map_or}
use Rattle.std.specs.FinMap.{entries, keys, retain_keys, values}
use Rattle.irc_names.specs.Fold.{key}
use Rattle.irc_names.specs.Greater.{bytes_cmp, greater}
use Rattle.irc_names.specs.Tables.{Table, row, each}
use Rattle.irc_users.specs.declared.user.User.{User}
use Rattle.irc_users.specs.UserTable.{is_home}
use Rattle.irc_channels.specs.declared.channel.Channel.{Channel}
use Rattle.irc_channels.specs.Channels.{has_member}
use Rattle.irc_room.specs.Room.{Room, IsWellFormed}
use Rattle.irc_merge.specs.ShownAlong.{shown_along}
use Rattle.irc_merge.specs.Quits.{quits_of, collision_text}
use Rattle.irc_merge.specs.Merge.{Agree, clash, merge, room_without}
use Rattle.irc_merge.specs.MergeShown.{member_arrival, merge_shown}
use Rattle.irc_merge.specs.Split.{split}
use Rattle.irc_merge.specs.Laws.{CanBeTold, ShareNoNickname}

-- the members of the other half's channel whom a member of this half's sees come, with their flags
abbrev pub comers : Room → User → Channel → Channel → List (List ℕ)
comers other viewer theirs ours =
    if has_member (key viewer.nick) ours
    then flat_map (member_arrival other.users viewer (greater bytes_cmp ours.name theirs.name))
    (entries theirs.members) else []

-- channel by channel, in folded order, as far as there are both
abbrev pub all_comers : Room → Room → User → List (List ℕ)
all_comers room other viewer =
    flat_map (λ (theirs : Channel).
    option_map_or (comers other viewer theirs) (row room.channels (key theirs.name)) [])
    (values other.channels)

-- who quits and who comes, and nothing of modes, topics and spellings
abbrev pub comers_shown : Room → Room → List ℕ → List (List ℕ)
comers_shown room other viewer =
    shown_along viewer room (quits_of collision_text (clash room other))
    ++ option_map_or (all_comers (room_without room other) (room_without other room))
    (row (room_without room other).users (key viewer)) []

-- Where both halves have the same of each channel but for who is in it, a user sees no MODE of a
-- channel's modes and no TOPIC.
abbrev pub AgreedShowComers : Type 0
AgreedShowComers = (room other : Room) → IsWellFormed room → IsWellFormed other → CanBeTold room
    → Agree room other → (viewer : List ℕ)
    → merge_shown room other viewer ≡ comers_shown room other viewer

-- Two sides of one room, which a lost link has left, have the same of each channel.
abbrev pub SidesAgree : Type 0
SidesAgree = (near_text far_text : List ℕ) (lost others : List (List ℕ)) (room : Room)
    → IsWellFormed room → Agree (split near_text lost room) (split far_text others room)

-- So each user sees nothing of modes and topics where these sides are linked, whichever servers
-- each of them has lost.
abbrev pub RejoinShowsComers : Type 0
RejoinShowsComers = (near_text far_text : List ℕ) (lost others : List (List ℕ)) (room : Room)
    → IsWellFormed room → CanBeTold room → (viewer : List ℕ)
    → merge_shown (split near_text lost room) (split far_text others room) viewer
    ≡ comers_shown (split near_text lost room) (split far_text others room) viewer

-- ---- the two sides of a network

-- whether the home of a user is one of these servers
abbrev pub has_home_in : List (List ℕ) → User → Bool
has_home_in homes user = list_any (λ home. is_home home user) homes

-- Each user of a room is at a server that one side loses, and at none that the other side loses
-- too: as where a link of a tree is lost (RFC 2813 section 4.1.6).
pub record AreSides (lost others : List (List ℕ)) (room : Room) : Type 0 where
  pub apart : (fold : List ℕ) (user : User) → row room.users fold ≡ Some user
      → has_home_in others user ≡ not (has_home_in lost user)

-- So nobody is on both sides.
abbrev pub SidesShareNoNickname : Type 0
SidesShareNoNickname = (near_text far_text : List ℕ) (lost others : List (List ℕ)) (room : Room)
    → IsWellFormed room → AreSides lost others room
    → ShareNoNickname (split near_text lost room) (split far_text others room)

-- Nobody quits then where the link is made again: who comes is all that is shown.
abbrev pub RejoinShowsOnlyComers : Type 0
RejoinShowsOnlyComers = (near_text far_text : List ℕ) (lost others : List (List ℕ)) (room : Room)
    → IsWellFormed room → CanBeTold room → AreSides lost others room → (viewer : List ℕ)
    → merge_shown (split near_text lost room) (split far_text others room) viewer
    ≡ option_map_or (all_comers (split near_text lost room) (split far_text others room))
    (row (split near_text lost room).users (key viewer)) []

-- ---- what is there when the link is made again

-- whether the user under a fold is at one of these servers
abbrev pub is_lost : List (List ℕ) → Table User → List ℕ → Bool
is_lost lost users fold = option_map_or (has_home_in lost) (row users fold) false

-- whether two users are on one side: both at one of these servers, or neither
abbrev pub is_beside : List (List ℕ) → Table User → List ℕ → List ℕ → Bool
is_beside lost users one other =
    if is_lost lost users one then is_lost lost users other else not (is_lost lost users other)

-- whether a channel has a member on the side of a user
abbrev pub has_member_beside : List (List ℕ) → Table User → Channel → List ℕ → Bool
has_member_beside lost users channel nick =
    list_any (is_beside lost users nick) (keys channel.members)

-- On a side that has no member of a channel it ends, and with it the invitations of that side.
abbrev pub inviting_beside : List (List ℕ) → Table User → Channel → Option Channel
inviting_beside lost users channel = Some (record channel {
  invited = retain_keys channel.invited (has_member_beside lost users channel);
})

-- a room without these invitations, and else as it was
abbrev pub without_ended : List (List ℕ) → Room → Room
without_ended lost room =
    record room { channels = each (inviting_beside lost room.users) room.channels }

-- A link that is lost and made again gives the room back: the same users, channels, members with
-- their flags, modes, bans and topics, and all invitations but those that ended.
abbrev pub RejoinGivesBack : Type 0
RejoinGivesBack = (near_text far_text : List ℕ) (lost others : List (List ℕ)) (room : Room)
    → IsWellFormed room → CanBeTold room → AreSides lost others room
    → merge (split near_text lost room) (split far_text others room) ≡ without_ended lost room

-- whoever is invited to a channel has a member of it on its side
pub record AreInvitedBeside (lost : List (List ℕ)) (room : Room) : Type 0 where
  pub beside : (fold nick : List ℕ) (channel : Channel) → row room.channels fold ≡ Some channel
      → is_some (row channel.invited nick) ≡ true
      → has_member_beside lost room.users channel nick ≡ true

-- Then no invitation ended, and the room is what it was.
abbrev pub RejoinGivesAllBack : Type 0
RejoinGivesAllBack = (near_text far_text : List ℕ) (lost others : List (List ℕ)) (room : Room)
    → IsWellFormed room → CanBeTold room → AreSides lost others room → AreInvitedBeside lost room
    → merge (split near_text lost room) (split far_text others room) ≡ room
