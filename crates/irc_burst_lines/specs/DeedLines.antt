-- A server's deeds as lines of a link (RFC 2813 sections 4.1, 4.2 and 5.3.2):
--   :a.net SERVER b.net 2 3 :B              b.net, linked to a.net, is two links from the reader,
--                                           and has number 3 on this link
--   :a.net SQUIT b.net :a.net b.net         b.net is lost, and its users quit with this text
--   :a.net KILL zed :Nick collision         the holder of zed quits
--   :a.net NJOIN #c :@al,+bo,@+cy,dee       members of #c: an operator, one who may speak, one who
--                                           is both, one who is neither
--   :a.net MODE #c +ntl 5                   modes of #c
--   :a.net TOPIC #c :hello                  its topic
use Rattle.std.specs.Prelude.{ℕ, Some, None, List, [], ◌∷◌, ◌++◌, codes, decimal, if◌then◌else◌}
use Rattle.std.specs.List.{flat_map}
use Rattle.irc_line.specs.Messages.{Written}
use Rattle.irc_channels.specs.declared.flags.Flags.{Flags}
use Rattle.irc_modes.specs.declared.modes.ModeChange.{ModeChange}
use Rattle.irc_modes.specs.ModeWritten.{changes_written}
use Rattle.irc_room.specs.Room.{Room}
use Rattle.irc_routes.specs.Known.{Known}
use Rattle.irc_merge.specs.Deeds.{Deed, does, gains, loses, kills, brings, sets, tops}
use Rattle.irc_link_writer.specs.Written.{from, wire, next_distance, written_token}

-- a server more, in the routes that have it already: how far it is from the reader, and our number
-- for it
abbrev pub server_parts : Known → List ℕ → List ℕ → List ℕ → Written
server_parts known uplink name info =
    from uplink (codes "SERVER") (name ∷ decimal (next_distance known name) ∷ decimal
    (written_token known name) ∷ []) (Some info)

-- SQUIT: the other servers learn of one that is lost, and the text with which its users quit
abbrev pub squit_parts : List ℕ → List ℕ → List ℕ → Written
squit_parts server name text = from server (codes "SQUIT") (name ∷ []) (Some text)

-- KILL is written for a nickname that two users have, and for nothing else
abbrev pub kill_parts : List ℕ → List ℕ → Written
kill_parts server nick = from server (codes "KILL") (nick ∷ []) (Some (codes "Nick collision"))

-- `@` before an operator, and `+` before who may speak (RFC 2813 section 4.2.2)
abbrev pub member_text : List ℕ × Flags → List ℕ
member_text member = (if member.1.op then codes "@" else [])
    ++ (if member.1.voice then codes "+" else []) ++ member.0

-- the first, and each other after a comma
abbrev pub more_text : List (List ℕ × Flags) → List ℕ
more_text members = flat_map (λ member. codes "," ++ member_text member) members

-- all members that one NJOIN brings, as its last parameter
abbrev pub members_text : List (List ℕ × Flags) → List ℕ
members_text [] = []
members_text (member ∷ members) = member_text member ++ more_text members

-- NJOIN brings members, each with the flags that it has in the channel
abbrev pub njoin_parts : List ℕ → List ℕ → List (List ℕ × Flags) → Written
njoin_parts server channel members =
    from server (codes "NJOIN") (channel ∷ []) (Some (members_text members))

-- Changes are written with the words that they have, so a line that is passed on has the words that
-- it came with.
abbrev pub mode_parts : List ℕ → List ℕ → List ModeChange → Written
mode_parts server channel changes =
    from server (codes "MODE") (channel ∷ changes_written changes) None

-- TOPIC from a server: a topic is told without the user who set it
abbrev pub topic_parts : List ℕ → List ℕ → List ℕ → Written
topic_parts server channel topic = from server (codes "TOPIC") (channel ∷ []) (Some topic)

-- what is written of a deed in a room and by routes: of an effect as they are before it, of a
-- server more as they are after it
abbrev pub deed_parts : Room → Known → Deed → Written
deed_parts room known (does effect) = wire room known effect
deed_parts room known (gains uplink name info) = server_parts known uplink name info
deed_parts room known (loses server name text) = squit_parts server name text
deed_parts room known (kills server nick) = kill_parts server nick
deed_parts room known (brings server channel members) = njoin_parts server channel members
deed_parts room known (sets server channel changes) = mode_parts server channel changes
deed_parts room known (tops server channel topic) = topic_parts server channel topic
