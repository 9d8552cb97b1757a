-- The burst: what a server writes to a neighbour that is new (RFC 2813 section 5.3.2). The
-- neighbour has to know a server before what is behind it, a user's server before the user, a
-- channel's members before what only a channel with members has; so first come the servers that are
-- not behind the link, the nearer first, then their users, what these have set beside what their
-- introductions tell, and then channel by channel the members, the modes, the bans and the topic.
--   :a.net SERVER b.net 2 3 :B
--   NICK al 1 u h 1 + :Al
--   :al MODE al +a :at lunch
--   :a.net NJOIN #m :@al
--   :a.net MODE #m +ntl 5
--   :a.net MODE #m +bbb a!*@* b!*@* c!*@*
--   :a.net TOPIC #m :hello
use Rattle.std.specs.Prelude.{ℕ, Bool, not, List, [], ◌++◌, map}
use Rattle.std.specs.Option.{option_map_or}
use Rattle.irc_line.specs.Messages.{Written}
use Rattle.irc_names.specs.Fold.{key}
use Rattle.irc_room.specs.Readers.{channel_at}
use Rattle.irc_room.specs.Room.{Room}
use Rattle.irc_routes.specs.Known.{Known, servers_told}
use Rattle.irc_routes.specs.declared.server_row.ServerRow.{ServerRow}
use Rattle.irc_merge.specs.Deeds.{Deed, gains}
use Rattle.irc_merge.specs.Bursts.{burst_of, channel_deeds, side_of}
use Rattle.irc_link_reader.specs.Reader.{is_behind_link}
use Rattle.irc_burst_lines.specs.DeedLines.{deed_parts}

-- a server is on this side where it is not behind the link: the server itself too
abbrev pub is_near : Known → ℕ → List ℕ → Bool
is_near known link home = not (is_behind_link known link home)

-- a server that is known on this side is a server more on the other
abbrev pub server_deed : ServerRow → Deed
server_deed r = gains r.uplink r.name r.info

-- what an end tells of its side: the servers first, for each user is told of by its home
abbrev pub burst_deeds : Room → Known → ℕ → List Deed
burst_deeds room known link =
    map server_deed (servers_told known link) ++ burst_of known.name (is_near known link) room

-- a burst as it goes out on a link: one line for each deed, none of which changes the room here
unfoldable pub burst_parts : Room → Known → ℕ → List Written
burst_parts room known link = map (deed_parts room known) (burst_deeds room known link)

-- One channel, told as a burst tells it: none of it where no member is on this side.
abbrev pub channel_deeds_in : List ℕ → (side : Room) → (name : List ℕ) → List Deed
channel_deeds_in server side name =
    option_map_or (channel_deeds server side.users) (channel_at side (key name)) []

abbrev pub channel_parts : Room → Known → ℕ → (name : List ℕ) → List Written
channel_parts room known link name = map (deed_parts room known)
    (channel_deeds_in known.name (side_of (is_near known link) room) name)
