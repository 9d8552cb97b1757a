-- What the lines of a burst do at a server that reads them (RFC 2813 section 5.3.2, RFC 2812
-- section 3.7.1). They crossed the lines of its own burst, so nicknames may be on both sides, and
-- so may channels.
use Rattle.std.specs.Prelude.{ℕ, Bool, false, not, ◌&&◌, List, [], ◌∷◌, ◌++◌, if◌then◌else◌}
use Rattle.std.specs.List.{list_any}
use Rattle.std.specs.Option.{option_map_or}
use Rattle.std.specs.FinMap.{keys}
use Rattle.irc_names.specs.Fold.{key}
use Rattle.irc_names.specs.Tables.{row}
use Rattle.irc_users.specs.declared.user.User.{User}
use Rattle.irc_users.specs.declared.user_change.UserChange.{UserChange}
use Rattle.irc_channels.specs.declared.flags.Flags.{Flags}
use Rattle.irc_channels.specs.declared.channel.Channel.{Channel}
use Rattle.irc_room.specs.effect.Effect.TheVariants.{AddUser, ChangeUser}
use Rattle.irc_room.specs.Room.{Room}
use Rattle.irc_room.specs.Effects.{has_user, is_member}
use Rattle.irc_room.specs.InTurn.{after_all}
use Rattle.irc_merge.specs.Deeds.{Deed, does, kills, brings, sets, tops, member_comes, after_deeds}
use Rattle.irc_merge.specs.Bursts.{home_passes}

-- A user is introduced. Where its nickname is held, the holder is killed, and the new user is not
-- taken (RFC 2812 section 3.7.1).
abbrev pub introduced : List ℕ → Room → User → List Deed
introduced own room user = option_map_or (λ (holder : User). kills own holder.nick ∷ [])
    (row room.users (key user.nick)) (does (AddUser user) ∷ [])

-- A user changes what it has set, where it is there: one whose nickname was on both sides is not.
abbrev pub changed : Room → List ℕ → UserChange → List Deed
changed room nick change =
    if has_user room nick then does (ChangeUser nick change) ∷ [] else []

-- whether one of whom NJOIN tells becomes a member: a user behind the link who is none yet
abbrev pub is_new_member : (List ℕ → Bool) → Room → List ℕ → List ℕ × Flags → Bool
is_new_member far room channel member =
    home_passes far room.users (key member.0) && not (is_member room member.0 channel)

-- those who become members, each judged by the room as those before it have left it
abbrev pub new_members : (List ℕ → Bool) → Room → List ℕ → List (List ℕ × Flags)
    → List (List ℕ × Flags)
new_members far room channel [] = []
new_members far room channel (member ∷ members) =
    if is_new_member far room channel member
    then member ∷ new_members far (after_all room (member_comes channel member)) channel members
    else new_members far room channel members

-- where nobody is left, there is nothing to be done
abbrev pub brought : List ℕ → List ℕ → List (List ℕ × Flags) → List Deed
brought server channel [] = []
brought server channel (member ∷ members) = brings server channel (member ∷ members) ∷ []

-- whether a channel is there, and has a member behind the link (our own choice)
abbrev pub some_far : (List ℕ → Bool) → Room → List ℕ → Bool
some_far far room channel =
    option_map_or (λ (c : Channel). list_any (home_passes far room.users) (keys c.members))
    (row room.channels (key channel)) false

-- what comes of a line of a burst, read by the server `own`; homes that are `far` are behind the
-- link
abbrev pub read_deed : List ℕ → (List ℕ → Bool) → Room → Deed → List Deed
read_deed own far room (does (AddUser user)) = introduced own room user
read_deed own far room (does (ChangeUser nick change)) = changed room nick change
read_deed own far room (brings server channel members) =
    brought server channel (new_members far room channel members)
read_deed own far room (sets server channel changes) =
    if some_far far room channel then sets server channel changes ∷ [] else []
read_deed own far room (tops server channel topic) =
    if some_far far room channel then tops server channel topic ∷ [] else []
read_deed own far room other = other ∷ []

-- what comes of some lines, each read in the room that those before it have left
abbrev pub read_all : List ℕ → (List ℕ → Bool) → Room → List Deed → List Deed
read_all own far room [] = []
read_all own far room (deed ∷ deeds) =
    read_deed own far room deed ++ read_all own far
    (after_deeds room (read_deed own far room deed)) deeds
