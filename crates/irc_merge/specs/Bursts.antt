-- What a server tells of its side of the network to a neighbour that is new (RFC 2813 section
-- 5.3.2; that topics are told is our own choice).
use Rattle.std.specs.Prelude.{ℕ, Bool, Some, None, List, [], ◌∷◌, ◌++◌, Option, length, map, false}
use Rattle.std.specs.Prelude.{if◌then◌else◌}
use Rattle.std.specs.Int.{div_ceil}
use Rattle.std.specs.List.{filter_map, flat_map}
use Rattle.std.specs.Option.{option_map, option_map_or}
use Rattle.std.specs.Simd.{first_chunks}
use Rattle.std.specs.FinMap.{entries, values, retain_keys}
use Rattle.irc_names.specs.Tables.{Table, row, each}
use Rattle.irc_users.specs.declared.user.User.{User}
use Rattle.irc_users.specs.ChangesTold.{as_introduced, changes_of}
use Rattle.irc_channels.specs.declared.flags.Flags.{Flags}
use Rattle.irc_modes.specs.declared.modes.ModeChange.{ModeChange}
use Rattle.irc_channels.specs.declared.channel.Channel.{Channel}
use Rattle.irc_modes.specs.Modes.{is_nil}
use Rattle.irc_channels.specs.Channels.{while_members}
use Rattle.irc_room.specs.effect.Effect.TheVariants.{AddUser, ChangeUser}
use Rattle.irc_room.specs.Room.{Room}
use Rattle.irc_merge.specs.Deeds.{Deed, does, brings, sets, tops}
use Rattle.irc_modes.specs.ModesSet.{set_changes, ban_changes}

-- a list in lines of this many, the last with what is left
unfoldable pub in_lines : {X : Type 0} → ℕ → List X → List (List X)
in_lines size xs = first_chunks size (div_ceil (length xs) size) xs

-- how many members one NJOIN brings, and how many bans one MODE sets (our own choice)
abbrev pub members_a_line : ℕ
members_a_line = 10

abbrev pub bans_a_line : ℕ
bans_a_line = 3

-- each user is introduced, in folded order, with what the line that introduces it tells
abbrev pub user_deeds : Room → List Deed
user_deeds room = map (λ user. does (AddUser (as_introduced user))) (values room.users)

-- then, in the same order, each changes what it has set beside that
abbrev pub own_deeds : User → List Deed
own_deeds user = map (λ change. does (ChangeUser user.nick change)) (changes_of user)

abbrev pub change_deeds : Room → List Deed
change_deeds room = flat_map own_deeds (values room.users)

abbrev pub people_deeds : Room → List Deed
people_deeds room = user_deeds room ++ change_deeds room

-- the members of a channel in folded order, each with its nickname as it is stored
abbrev pub stored_member : Table User → List ℕ × Flags → Option (List ℕ × Flags)
stored_member users member =
    option_map (λ (user : User). (user.nick, member.1)) (row users member.0)

abbrev pub stored_members : Table User → Channel → List (List ℕ × Flags)
stored_members users channel = filter_map (stored_member users) (entries channel.members)

-- the modes but for bans in one line, where any is set
abbrev pub settings_line : List ℕ → List ℕ → List ModeChange → List Deed
settings_line server channel [] = []
settings_line server channel (change ∷ changes) = sets server channel (change ∷ changes) ∷ []

-- the topic, where there is one
abbrev pub topic_line : List ℕ → List ℕ → List ℕ → List Deed
topic_line server channel topic = if is_nil topic then [] else tops server channel topic ∷ []

-- a channel: its members, its modes, its bans, its topic
abbrev pub channel_deeds : List ℕ → Table User → Channel → List Deed
channel_deeds server users channel =
    map (brings server channel.name) (in_lines members_a_line (stored_members users channel))
    ++ (settings_line server channel.name (set_changes channel.modes)
    ++ (map (sets server channel.name) (in_lines bans_a_line (ban_changes channel.modes.bans))
    ++ topic_line server channel.name channel.topic))

-- all that a room has but invitations, told by this server: users, and then channel by channel, in
-- folded order
unfoldable pub burst : List ℕ → Room → List Deed
burst server room =
    people_deeds room ++ flat_map (channel_deeds server room.users) (values room.channels)

-- whether the home of the user under a fold passes a test
abbrev pub home_passes : (List ℕ → Bool) → Table User → List ℕ → Bool
home_passes passes users fold =
    option_map_or (λ (user : User). passes user.home) (row users fold) false

abbrev pub user_passes : (List ℕ → Bool) → User → Option User
user_passes passes user = if passes user.home then Some user else None

-- a channel with those of its users alone whose homes pass, if there is a member left
abbrev pub channel_side : (List ℕ → Bool) → Table User → Channel → Option Channel
channel_side passes users channel = while_members (record channel {
  members = retain_keys channel.members (home_passes passes users);
  invited = retain_keys channel.invited (home_passes passes users);
})

-- a room with those users alone whose homes pass
unfoldable pub side_of : (List ℕ → Bool) → Room → Room
side_of passes room = record {
  users = each (user_passes passes) room.users;
  channels = each (channel_side passes room.users) room.channels;
}

-- what is told of the users whose homes pass: those that are not behind the link
abbrev pub burst_of : List ℕ → (List ℕ → Bool) → Room → List Deed
burst_of server passes room = burst server (side_of passes room)
