-- What the users of one half are shown when two halves of a network become one (RFC 2813 section
-- 5.3.2).
use Rattle.std.specs.Prelude.{ℕ, Bool, Some, None, List, [], ◌∷◌, ◌++◌, codes, if◌then◌else◌}
use Rattle.std.specs.List.{flat_map}
use Rattle.std.specs.Ordering.{is_lt}
use Rattle.std.specs.Option.{option_map_or}
use Rattle.std.specs.FinMap.{entries, values}
use Rattle.irc_names.specs.Fold.{key}
use Rattle.irc_names.specs.Greater.{bytes_cmp, greater}
use Rattle.irc_names.specs.Tables.{Table, row}
use Rattle.irc_line.specs.Messages.{named, full, text}
use Rattle.irc_users.specs.declared.user.User.{User}
use Rattle.irc_channels.specs.declared.flags.Flags.{Flags}
use Rattle.irc_channels.specs.declared.channel.Channel.{Channel}
use Rattle.irc_channels.specs.Channels.{has_member}
use Rattle.irc_modes.specs.declared.modes.Modes.{Modes}
use Rattle.irc_modes.specs.declared.modes.ModeChange.{ModeChange}
use Rattle.irc_modes.specs.Modes.{modes_after}
use Rattle.irc_modes.specs.ModesSet.{set_changes, ban_changes}
use Rattle.irc_modes.specs.Raised.{raising}
use Rattle.irc_modes.specs.ModeWritten.{changes_written}
use Rattle.irc_room.specs.Room.{Room}
use Rattle.irc_merge.specs.Bursts.{bans_a_line, in_lines}
use Rattle.irc_merge.specs.ShownAlong.{shown_along}
use Rattle.irc_merge.specs.Quits.{quits_of, collision_text}
use Rattle.irc_merge.specs.Merge.{clash, room_without}

-- the JOIN of a user
abbrev pub join_line : List ℕ → User → List ℕ
join_line channel user = text (record {
  sender = full user.nick user.user user.host;
  command = codes "JOIN";
  middle = channel ∷ [];
  last = None;
})

-- the MODE with which the viewer's own server gives a member a flag, where it has it
abbrev pub flag_line : User → List ℕ → Bool → List ℕ → List ℕ → List (List ℕ)
flag_line viewer channel has change nick =
    if has then text (record {
      sender = named viewer.home;
      command = codes "MODE";
      middle = channel ∷ change ∷ nick ∷ [];
      last = None;
    }) ∷ [] else []

-- one comes to a channel: JOIN, and then +o and +v
abbrev pub arrival : User → List ℕ → Flags → User → List (List ℕ)
arrival viewer channel flags user =
    join_line channel user ∷ (flag_line viewer channel flags.op (codes "+o") user.nick
    ++ flag_line viewer channel flags.voice (codes "+v") user.nick)

-- of a member of the other half's channel
abbrev pub member_arrival : Table User → User → List ℕ → List ℕ × Flags → List (List ℕ)
member_arrival users viewer channel member =
    option_map_or (arrival viewer channel member.1) (row users member.0) []

-- the letters that are set in one line, where there are any
abbrev pub letters_line : List ModeChange → List (List ModeChange)
letters_line [] = []
letters_line (change ∷ changes) = (change ∷ changes) ∷ []

-- the modes of a channel line by line: the letters that are set, and the bans three a line
abbrev pub mode_lines : Modes → List (List ModeChange)
mode_lines modes =
    letters_line (set_changes modes) ++ in_lines bans_a_line (ban_changes modes.bans)

-- MODE with which the viewer's own server makes changes, where there are any
abbrev pub raised_line : User → List ℕ → List ModeChange → List (List ℕ)
raised_line viewer channel [] = []
raised_line viewer channel (change ∷ changes) =
    text (record {
      sender = named viewer.home;
      command = codes "MODE";
      middle = channel ∷ changes_written (change ∷ changes);
      last = None;
    }) ∷ []

-- of each of these lines what raises something, by the modes as the lines before have left them
abbrev pub raised_lines : User → List ℕ → List (List ModeChange) → Modes → List (List ℕ)
raised_lines viewer channel [] modes = []
raised_lines viewer channel (line ∷ lines) modes =
    raised_line viewer channel (raising line modes)
    ++ raised_lines viewer channel lines (modes_after (raising line modes) modes)

-- TOPIC by the viewer's own server, where the other half's is greater
abbrev pub raised_topic : User → List ℕ → List ℕ → List ℕ → List (List ℕ)
raised_topic viewer channel ours theirs =
    if is_lt (bytes_cmp ours theirs)
    then text (record {
      sender = named viewer.home;
      command = codes "TOPIC";
      middle = channel ∷ [];
      last = Some theirs;
    }) ∷ [] else []

-- What of the other half's channel is shown under a name: all its members, in folded order; what
-- its modes raise in ours; its topic.
abbrev pub channel_seen : Room → User → List ℕ → Channel → Channel → List (List ℕ)
channel_seen other viewer name theirs ours =
    flat_map (member_arrival other.users viewer name) (entries theirs.members)
    ++ (raised_lines viewer name (mode_lines theirs.modes) ours.modes
    ++ raised_topic viewer name ours.topic theirs.topic)

-- A member of this half's channel is shown that, each line with the greater of the two spellings.
abbrev pub channel_arrivals : Room → User → Channel → Channel → List (List ℕ)
channel_arrivals other viewer theirs ours =
    if has_member (key viewer.nick) ours
    then channel_seen other viewer (greater bytes_cmp ours.name theirs.name) theirs ours else []

-- channel by channel, in folded order, as far as there are both
abbrev pub arrivals : Room → Room → User → List (List ℕ)
arrivals room other viewer =
    flat_map (λ (theirs : Channel). option_map_or (channel_arrivals other viewer theirs)
    (row room.channels (key theirs.name)) []) (values other.channels)

-- The user of a nickname sees those quit who clash, in order, until it is one of them; and if it is
-- none, who comes to its channels.
unfoldable pub merge_shown : Room → Room → List ℕ → List (List ℕ)
merge_shown room other viewer =
    shown_along viewer room (quits_of collision_text (clash room other))
    ++ option_map_or (arrivals (room_without room other) (room_without other room))
    (row (room_without room other).users (key viewer)) []
