-- Lines put behind others, part by part of a burst.
use Rattle.std.specs.Prelude.{◌≡◌, ℕ, Bool, Option, Some, None, List, [], ◌∷◌, ◌++◌, filter, map}
use Rattle.std.specs.Prelude.{option_to_list, if◌then◌else◌}
use Rattle.std.specs.Borrow.{Bor}
use Rattle.std.specs.Global.{Vec}
use Rattle.std.specs.List.{filter_map, flat_map}
use Rattle.std.specs.Option.{option_and_then, option_map, option_map_or}
use Rattle.std.specs.FinMap.{entries, values}
use Rattle.arrayvec.specs.ArrayVec.{ArrayVec}
use Rattle.irc_names.specs.Tables.{Table, row}
use Rattle.irc_line.specs.Messages.{Written, text}
use Rattle.irc_users.specs.declared.user.User.{User}
use Rattle.irc_users.specs.declared.user_change.UserChange.{UserChange}
use Rattle.irc_users.specs.ChangesTold.{changes_of}
use Rattle.irc_channels.specs.declared.flags.Flags.{Flags}
use Rattle.irc_channels.specs.declared.channel.Channel.{Channel}
use Rattle.irc_modes.specs.Modes.{is_nil}
use Rattle.irc_modes.specs.ModesSet.{set_changes, ban_changes}
use Rattle.irc_modes.specs.declared.modes.ModeChange.{ModeChange}
use Rattle.irc_tables.specs.RowViews.{row_entry}
use Rattle.irc_tables.specs.declared.table.Row.{Row}
use Rattle.irc_room.specs.effect.Effect.TheVariants.{ChangeUser}
use Rattle.irc_room.specs.Room.{Room}
use Rattle.irc_routes.specs.Known.{Known}
use Rattle.irc_routes.specs.declared.server_row.ServerRow.{ServerRow}
use Rattle.irc_merge.specs.Bursts.{in_lines, members_a_line, bans_a_line}
use Rattle.irc_link_writer.specs.Written.{introduction, wire}
use Rattle.irc_link_reader.specs.declared.deed.NewMember.{NewMember}
pub use Rattle.irc_link_reader.specs.Loops.Tellings.{told_member, told_members}
use Rattle.irc_burst_lines.specs.DeedLines.{server_parts, members_text, njoin_parts, mode_parts}
use Rattle.irc_burst_lines.specs.DeedLines.{topic_parts}
use Rattle.irc_burst_lines.specs.BurstLines.{is_near}

abbrev pub lines_now : List (ArrayVec ℕ) → List (List ℕ)
lines_now lines = map (λ (line : ArrayVec ℕ). line.items) lines

-- the lines of these parts were put behind others
abbrev pub Writes : List Written → List (ArrayVec ℕ) → List (ArrayVec ℕ) → Type 0
Writes parts old new = lines_now new ≡ lines_now old ++ map text parts

-- the same of two lists
abbrev pub Tells : List Written → Vec (ArrayVec ℕ) → Vec (ArrayVec ℕ) → Type 0
Tells parts old new = Writes parts old.items new.items

-- a list is the lines of these parts
abbrev pub AreLines : List Written → Vec (ArrayVec ℕ) → Type 0
AreLines parts lines = lines_now lines.items ≡ map text parts

abbrev pub told_text : List NewMember → List ℕ
told_text members = members_text (told_members members)

-- a list with one member more, if there is one
abbrev pub Gains : Vec NewMember → Option NewMember → Vec NewMember → Type 0
Gains old member new = told_members new.items ≡ told_members old.items
    ++ option_to_list (option_map told_member member)

-- ---- changes

-- a list with these changes more
abbrev pub Grew : Vec ModeChange → List ModeChange → Vec ModeChange → Type 0
Grew old changes new = new.items ≡ old.items ++ changes

-- ---- servers and users

abbrev pub row_parts : Known → ServerRow → Written
row_parts known r = server_parts known r.uplink r.name r.info

abbrev pub rows_now : List (Bor ServerRow) → List ServerRow
rows_now rows = map (λ (r : Bor ServerRow). r.now) rows

abbrev pub users_now : List (Bor User) → List User
users_now users = map (λ (user : Bor User). user.now) users

abbrev pub is_near_user : Known → ℕ → User → Bool
is_near_user known link user = is_near known link user.home

-- the lines of servers, and those of the users among some that are on this side
abbrev pub server_rows : Known → List (Bor ServerRow) → List Written
server_rows known rows = map (row_parts known) (rows_now rows)

abbrev pub user_lines : Known → ℕ → List User → List Written
user_lines known link users = map (introduction known) (filter (is_near_user known link) users)

-- the line of a change of a user's own, and those of what it has set
abbrev pub own_parts : Room → Known → User → UserChange → Written
own_parts room known user change = wire room known (ChangeUser user.nick change)

abbrev pub own_lines : Room → Known → User → List Written
own_lines room known user = map (own_parts room known user) (changes_of user)

abbrev pub change_lines : Room → Known → ℕ → List User → List Written
change_lines room known link users =
    flat_map (own_lines room known) (filter (is_near_user known link) users)

abbrev pub users_told : Known → ℕ → Room → List Written
users_told known link room =
    user_lines known link (values room.users) ++ change_lines room known link (values room.users)

-- ---- a channel

-- a member that is on this side, with its nickname as it is stored
abbrev pub near_user : (List ℕ → Bool) → Flags → User → Option (List ℕ × Flags)
near_user passes flags user = if passes user.home then Some (user.nick, flags) else None

abbrev pub near_member : (List ℕ → Bool) → Table User → List ℕ × Flags → Option (List ℕ × Flags)
near_member passes users member = option_and_then (near_user passes member.1) (row users member.0)

abbrev pub near_members : (List ℕ → Bool) → Table User → Channel → List (List ℕ × Flags)
near_members passes users channel = filter_map (near_member passes users) (entries channel.members)

abbrev pub member_lines : List ℕ → List ℕ → List (List ℕ × Flags) → List Written
member_lines server channel members =
    map (njoin_parts server channel) (in_lines members_a_line members)

abbrev pub settings_lines : List ℕ → List ℕ → List ModeChange → List Written
settings_lines server channel [] = []
settings_lines server channel (change ∷ changes) = mode_parts server channel (change ∷ changes) ∷ []

abbrev pub ban_lines : List ℕ → List ℕ → List ModeChange → List Written
ban_lines server channel changes = map (mode_parts server channel) (in_lines bans_a_line changes)

abbrev pub topic_lines : List ℕ → List ℕ → List ℕ → List Written
topic_lines server channel topic =
    if is_nil topic then [] else topic_parts server channel topic ∷ []

-- what a channel is told by where these of its members are told of
abbrev pub channel_lines : List ℕ → Channel → List (List ℕ × Flags) → List Written
channel_lines server channel [] = []
channel_lines server channel (member ∷ members) =
    member_lines server channel.name (member ∷ members)
    ++ (settings_lines server channel.name (set_changes channel.modes)
    ++ (ban_lines server channel.name (ban_changes channel.modes.bans)
    ++ topic_lines server channel.name channel.topic))

abbrev pub channel_told : Known → ℕ → Table User → Channel → List Written
channel_told known link users channel =
    channel_lines known.name channel (near_members (is_near known link) users channel)

-- ---- the same, as the code has them

abbrev pub lines_of_members : List ℕ → List ℕ → List NewMember → List Written
lines_of_members server channel members = member_lines server channel (told_members members)

abbrev pub lines_of_modes : List ℕ → Channel → List Written
lines_of_modes server channel = settings_lines server channel.name (set_changes channel.modes)

abbrev pub lines_of_bans : List ℕ → Channel → List Written
lines_of_bans server channel = ban_lines server channel.name (ban_changes channel.modes.bans)

abbrev pub lines_of_channel : List ℕ → Channel → List NewMember → List Written
lines_of_channel server channel members = channel_lines server channel (told_members members)

abbrev pub near_row : Known → ℕ → Room → Row Flags → Option (List ℕ × Flags)
near_row known link room r = near_member (is_near known link) room.users (row_entry r)

abbrev pub near_rows : Known → ℕ → Room → List (Row Flags) → List (List ℕ × Flags)
near_rows known link room rows =
    filter_map (near_member (is_near known link) room.users) (map row_entry rows)

abbrev pub told_in : Known → ℕ → Room → Channel → List Written
told_in known link room channel = channel_told known link room.users channel

abbrev pub told_if : Known → ℕ → Room → Option Channel → List Written
told_if known link room channel = option_map_or (told_in known link room) channel []

abbrev pub channels_told : Known → ℕ → Room → List Written
channels_told known link room = flat_map (channel_told known link room.users) (values room.channels)

abbrev pub rows_told : Known → ℕ → Room → List (Row Channel) → List Written
rows_told known link room rows =
    flat_map (λ (r : Row Channel). channel_told known link room.users r.value) rows
