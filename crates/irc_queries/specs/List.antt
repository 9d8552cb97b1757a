-- LIST.
use Rattle.std.specs.Prelude.{ℕ, Option, Some, None, List, [], ◌∷◌, ◌++◌, length, map, filter}
use Rattle.std.specs.Prelude.{if◌then◌else◌}
use Rattle.std.specs.List.{flat_map}
use Rattle.std.specs.FinMap.{values}
use Rattle.irc_names.specs.Fold.{key}
use Rattle.irc_names.specs.Tables.{Table, row}
use Rattle.irc_users.specs.declared.user.User.{User}
use Rattle.irc_channels.specs.declared.channel.Channel.{Channel}
use Rattle.irc_numerics.specs.declared.replies.Reply.TheVariants.{List as ListRow, ListEnd}
use Rattle.irc_room.specs.Room.{Room}
use Rattle.irc_acts.specs.declared.act.Act.{Act}
use Rattle.irc_acts.specs.declared.act.Act.TheVariants.{Answer}
use Rattle.irc_acts.specs.Acts.{bytes_kept}
use Rattle.irc_acts.specs.CommaLists.{entries}
use Rattle.irc_acts.specs.Standing.{is_listed, is_known}
use Rattle.irc_acts.specs.Names.{named_members}

-- a channel, how many of its members NAMES would name to this user, and its topic
abbrev pub channel_entry : Table User → User → Channel → Act
channel_entry users me channel = Answer
    (ListRow channel.name (length (named_members users me channel)) (bytes_kept channel.topic))

-- of each of these channels that is listed
abbrev pub listed_entries : Table User → User → List Channel → List Act
listed_entries users me channels = map (channel_entry users me) (filter (is_listed me) channels)

-- of a channel that is there and known
abbrev pub known_entry : Table User → User → Option Channel → List Act
known_entry users me None = []
known_entry users me (Some channel) =
    if is_known me channel then channel_entry users me channel ∷ [] else []

-- of one name that is asked for; nothing is told of a name that is no channel
abbrev pub asked_entry : Room → User → List ℕ → List Act
asked_entry room me name = known_entry room.users me (row room.channels (key name))

-- what a LIST does (RFC 2812 section 3.2.6)
unfoldable pub list_steps : Room → User → List (List ℕ) → List Act
list_steps room me [] = listed_entries room.users me (values room.channels) ++ Answer ListEnd ∷ []
list_steps room me (list ∷ more) =
    flat_map (asked_entry room me) (entries list) ++ Answer ListEnd ∷ []
