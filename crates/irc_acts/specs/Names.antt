-- NAMES, and the names that a joiner is sent.
use Rattle.std.specs.Prelude.{ℕ, Bool, not, ◌||◌, Option, Some, None, List, [], ◌∷◌, ◌++◌, length}
use Rattle.std.specs.Prelude.{map, filter, if◌then◌else◌}
use Rattle.std.specs.List.{filter_map, flat_map}
use Rattle.std.specs.Option.{option_and_then}
use Rattle.std.specs.Int.{div_ceil}
use Rattle.std.specs.Simd.{first_chunks}
use Rattle.std.specs.FinMap.{entries as rows_of, values}
use Rattle.irc_names.specs.Fold.{key}
use Rattle.irc_names.specs.Tables.{Table, row}
use Rattle.irc_users.specs.declared.user.User.{User}
use Rattle.irc_channels.specs.declared.flags.Flags.{Flags}
use Rattle.irc_channels.specs.declared.channel.Channel.{Channel}
use Rattle.irc_channels.specs.Channels.{has_member, joined}
use Rattle.irc_numerics.specs.Limits.{max_names}
use Rattle.irc_numerics.specs.declared.replies.Listed.{Listed}
use Rattle.irc_numerics.specs.declared.replies.Reply.TheVariants.{NamReply, EndOfNames}
use Rattle.irc_room.specs.Room.{Room}
use Rattle.irc_acts.specs.declared.act.Act.{Act}
use Rattle.irc_acts.specs.declared.act.Act.TheVariants.{Answer}
use Rattle.irc_acts.specs.Acts.{client_words}
use Rattle.irc_acts.specs.Marks.{asterisk}
use Rattle.irc_acts.specs.CommaLists.{entries}
use Rattle.irc_acts.specs.Standing.{mark_of, visibility_of, is_listed, is_known}

-- To a member all members are named, to others those without mode i.
abbrev pub is_named_to : User → Channel → User → Bool
is_named_to me channel member = has_member (key me.nick) channel || not member.invisible

-- a member's row as it is listed: what it is there, and its nickname as stored
abbrev pub listed_as : (User → Bool) → Flags → User → Option Listed
listed_as is_named flags user =
    if is_named user then Some (record { mark = mark_of flags; nick = user.nick }) else None

-- a row of a channel's members, by the user whose it is
abbrev pub listed : Table User → (User → Bool) → List ℕ × Flags → Option Listed
listed users is_named member = option_and_then (listed_as is_named member.1) (row users member.0)

-- the members that are named to a user, in folded order
abbrev pub named_members : Table User → User → Channel → List Listed
named_members users me channel =
    filter_map (listed users (is_named_to me channel)) (rows_of channel.members)

-- a list in lines of this many, the last with what is left
unfoldable pub in_lines : {X : Type 0} → ℕ → List X → List (List X)
in_lines size names = first_chunks size (div_ceil (length names) size) names

-- a line of names (RFC 2812 section 5.1, reply 353)
abbrev pub name_line : Channel → List Listed → Act
name_line channel names = Answer (NamReply (visibility_of channel.modes.privacy) channel.name names)

-- where there is nobody to name there is no line
abbrev pub name_lines : Channel → List Listed → List Act
name_lines channel names = map (name_line channel) (in_lines max_names names)

-- what is told of the members of one channel
abbrev pub names_of : Table User → User → Channel → List Act
names_of users me channel = name_lines channel (named_members users me channel)

-- what a joiner is sent: the names of the channel as it is once the joiner is a member
abbrev pub joiner_names : Room → User → Bool → Channel → List Act
joiner_names room me op channel = names_of room.users me (joined (key me.nick) op channel)

-- of each of these channels that is listed
abbrev pub listed_names : Room → User → List Channel → List Act
listed_names room me channels = flat_map (names_of room.users me) (filter (is_listed me) channels)

-- of a channel that is there and known
abbrev pub known_names : Table User → User → Option Channel → List Act
known_names users me None = []
known_names users me (Some channel) = if is_known me channel then names_of users me channel else []

-- the end names the channel as it was asked for
abbrev pub end_of_names : List ℕ → Act
end_of_names asked = Answer (EndOfNames (client_words asked))

-- what is told of one name that is asked for; it has an end, be it a channel or not
abbrev pub one_names : Room → User → List ℕ → List Act
one_names room me name =
    known_names room.users me (row room.channels (key name)) ++ end_of_names name ∷ []

-- of each channel of a comma list, one after another
abbrev pub list_names : Room → User → List ℕ → List Act
list_names room me list = flat_map (one_names room me) (entries list)

-- What a NAMES does (RFC 2812 section 3.2.5). Without a parameter, all channels that are listed;
-- users on no such channel are not named (our own choice).
unfoldable pub names_steps : Room → User → List (List ℕ) → List Act
names_steps room me [] =
    listed_names room me (values room.channels) ++ end_of_names (asterisk ∷ []) ∷ []
names_steps room me (list ∷ more) = list_names room me list
