-- What a line of a linked server means: the deeds that it tells of, or why the link is closed (RFC
-- 2813 section 4, RFC 2812 section 3.7.1). Lines of users are read as irc_link_reader has it; here
-- are the lines of servers, and what becomes of a nickname that two users have.
--
-- Lines by the link to b.net, as a.net reads them; bo is a user of b.net, al one of a.net, and
-- c.net is unknown.
--   `:b.net SERVER c.net 2 2 :C`         c.net is behind the link, two links away, number 2 there
--   `:b.net SERVER c.net 3 2 :C`         Parameters: a server linked to b.net is two links away
--   `:b.net SERVER c.net 2 1 :C`         BadToken: number 1 is b.net's
--   `:b.net SERVER a.net 2 2 :A`         AlreadyKnown
--   `:b.net SQUIT c.net :b.net c.net`    BadName, as c.net is unknown; of a.net WrongDirection
--   `:b.net KILL al :Nick collision`     al quits; with another text Parameters; of a nickname
--                                        that nobody has it means nothing
--   `:b.net NJOIN #c :@bo,+zz`           bo becomes a member, and an operator, if it is none; zz
--                                        is nobody, and left out
--   `:b.net TOPIC #c :hello`             counts where #c is there and has a member behind the
--                                        link, else it means nothing
--   `NICK al 1 u h 1 + :Al`              al is killed in the name of a.net, the newcomer not taken
--   `:bo NICK al`                        both are killed, al first: in folded order
--   `PASS pw 0210010001 TREE|`           Order: it begins a link
use Rattle.std.specs.Prelude.{ℕ, ◌+◌, Bool, true, false, not, ◌&&◌, ◌||◌, is_some, is_none, Option}
use Rattle.std.specs.Prelude.{Some, None, Result, Ok, Err, List, [], ◌∷◌, codes, length, map}
use Rattle.std.specs.Prelude.{nat_eq, nat_lt, nat_le, if◌then◌else◌}
use Rattle.std.specs.List.{find, flat_map, list_all, slice_split}
use Rattle.std.specs.Option.{option_map_or}
use Rattle.std.specs.Ordering.{is_lt}
use Rattle.std.specs.Str.{bytes_eq}
use Rattle.irc_batch.specs.declared.close_reason.CloseReason.{CloseReason}
use Rattle.irc_batch.specs.declared.close_reason.CloseReason.TheVariants as reason
use Rattle.irc_line.specs.Messages.{Parsed}
use Rattle.irc_names.specs.Fold.{key, same, name_cmp}
use Rattle.irc_names.specs.Names.{is_nick, is_channel, is_server}
use Rattle.irc_names.specs.Tables.{row}
use Rattle.irc_users.specs.declared.user.User.{User}
use Rattle.irc_channels.specs.declared.flags.Flags.{Flags}
use Rattle.irc_names.specs.Digits.{number_of}
use Rattle.irc_room.specs.effect.Effect.{Effect}
use Rattle.irc_room.specs.effect.Effect.TheVariants.{AddUser, Rename}
use Rattle.irc_room.specs.Room.{Room}
use Rattle.irc_room.specs.Seen.{stored_nick}
use Rattle.irc_routes.specs.Info.{is_info}
use Rattle.irc_routes.specs.Known.{Known, is_known}
use Rattle.irc_merge.specs.Bursts.{members_a_line}
use Rattle.irc_merge.specs.BurstRead.{introduced, new_members, brought}
use Rattle.irc_merge.specs.Deeds.{Deed, does, kills, loses}
use Rattle.irc_link_words.specs.declared.fault.WireFault.{WireFault}
use Rattle.irc_link_words.specs.Numbers.{is_number, max_number}
use Rattle.irc_link_words.specs.Words.{is_command, are_words}
use Rattle.irc_link_reader.specs.Means.{means}
use Rattle.irc_link_reader.specs.Reader.{Reader, reader_of, may_come}
pub use Rattle.irc_link_reader.specs.Told.{Told, a_deed, a_server, Judged, unless_late}
pub use Rattle.irc_link_reader.specs.Told.{first_reason, server_of, kept_prefix, wire_reason}
use Rattle.irc_link_words.specs.Openings.{password_of, greeting_of}
use Rattle.irc_link_words.specs.Peers.{not_taken}

-- a line with too few or too many parameters, or not from a name where it has to be
abbrev pub malformed_burst : Judged
malformed_burst = record {
  parameters = false;
  token = true;
  direction = true;
  names = true;
  late = None;
  told = [];
}

-- a line of a server, without a number in it
abbrev pub of_server : Reader → List ℕ → Bool → Bool → Bool → List Deed → Judged
of_server reader server parameters direction names deeds = record {
  parameters = parameters;
  token = true;
  direction = may_come reader server && direction;
  names = is_server server && names;
  late = None;
  told = map a_deed deeds;
}

-- ---- servers come and go

-- A server that is linked to one that is known is one link further away; a distance is looked at
-- where that one is known. The greatest number is no distance, for there would be none for the next
-- link.
abbrev pub is_next_distance : Reader → List ℕ → ℕ → Bool
is_next_distance reader uplink distance = option_map_or (λ links. nat_eq distance (links + 1))
    (reader.distance uplink) true && nat_lt distance max_number

-- SERVER for a server behind the link: the neighbour's number for it has to be free
abbrev pub later_server : Reader → Known → (uplink name distance token info : List ℕ) → Judged
later_server reader known uplink name distance token info = record {
  parameters = is_number distance && is_number token && is_info info
      && is_next_distance reader uplink (number_of distance);
  token = is_none (reader.server (number_of token));
  direction = may_come reader uplink;
  names = is_server uplink && is_server name;
  late = not_taken known name;
  told = a_server uplink name (number_of distance) (number_of token) info ∷ [];
}

-- a line that stands at the beginning of a link alone
abbrev pub only_first : Bool → Judged
only_first parameters = record {
  parameters = parameters;
  token = true;
  direction = true;
  names = true;
  late = Some reason.Order;
  told = [];
}

-- with a prefix it tells of a server more; without one it is a greeting, and comes too late
abbrev pub server_line : Reader → Known → Option (List ℕ) → List (List ℕ) → Judged
server_line reader known (Some uplink) (name ∷ distance ∷ token ∷ info ∷ []) =
    later_server reader known uplink name distance token info
server_line reader known (Some uplink) other = malformed_burst
server_line reader known None params = only_first (is_some (greeting_of params))

-- PASS belongs to the handshake, and no server says it for another
abbrev pub pass_line : Option (List ℕ) → List (List ℕ) → Judged
pass_line None params = only_first (is_some (password_of params))
pass_line (Some name) params = malformed_burst

-- A server that is lost has to be behind the link; of one that is unknown the line has a bad name.
abbrev pub squit_line : Reader → Known → Option (List ℕ) → List (List ℕ) → Judged
squit_line reader known (Some server) (name ∷ text ∷ []) =
    of_server reader server (are_words text) (not (is_known known name) || reader.is_far name)
    (is_server name && is_known known name) (loses server name text ∷ [])
squit_line reader known _ _ = malformed_burst

-- ---- a nickname that two users have (RFC 2812 section 3.7.1)

-- the holder of a nickname is killed
abbrev pub killed : List ℕ → Room → List ℕ → List Deed
killed server room nick =
    option_map_or (λ (holder : User). kills server holder.nick ∷ []) (row room.users (key nick)) []

-- A nickname that nobody holds is no fault: its user may have left while the KILL was on its way.
abbrev pub kill_line : Reader → Room → Option (List ℕ) → List (List ℕ) → Judged
kill_line reader room (Some server) (nick ∷ text ∷ []) =
    of_server reader server (bytes_eq text (codes "Nick collision")) true (is_nick nick)
    (killed server room nick)
kill_line reader room _ _ = malformed_burst

-- two nicknames in folded order
abbrev pub nicks_in_order : List ℕ → List ℕ → List (List ℕ)
nicks_in_order one other = if is_lt (name_cmp other one) then other ∷ one ∷ [] else one ∷ other ∷ []

-- whether a user takes the nickname of another
abbrev pub takes_anothers : Room → List ℕ → List ℕ → Bool
takes_anothers room nick new = is_some (row room.users (key new)) && not (same nick new)

-- a user takes another nickname: where somebody else has it, both are killed
abbrev pub renamed_or_killed : List ℕ → Room → List ℕ → List ℕ → List Deed
renamed_or_killed own room nick new =
    if takes_anothers room nick new
    then map (kills own) (nicks_in_order (stored_nick room nick) (stored_nick room new))
    else does (Rename nick new) ∷ []

-- ---- members of a channel (RFC 2813 section 4.2.2)

-- the first byte of a word, if it is this mark, is one
abbrev pub has_mark : ℕ → List ℕ → Bool
has_mark mark [] = false
has_mark mark (first ∷ rest) = nat_eq first mark

-- what is left of a word behind this mark; a word without it is left whole
abbrev pub without_mark : ℕ → List ℕ → List ℕ
without_mark mark [] = []
without_mark mark (first ∷ rest) = if nat_eq first mark then rest else first ∷ rest

-- `@`: an operator of the channel
abbrev pub at_mark : ℕ
at_mark = 0x40

-- `+`: who may speak while the channel is moderated
abbrev pub plus_mark : ℕ
plus_mark = 0x2B

-- `@` before an operator, and behind it `+` before who may speak
abbrev pub member_of : List ℕ → List ℕ × Flags
member_of word = (
  without_mark plus_mark (without_mark at_mark word),
  record {
    op = has_mark at_mark word;
    voice = has_mark plus_mark (without_mark at_mark word);
  },
)

-- what stands between two members
abbrev pub is_comma : ℕ → Bool
is_comma byte = nat_eq byte 0x2C

-- the members that an NJOIN names, with their flags
abbrev pub members_of : List ℕ → List (List ℕ × Flags)
members_of text = map member_of (slice_split is_comma text)

-- a member's nickname as the room has it
abbrev pub as_stored : Room → List ℕ × Flags → List ℕ × Flags
as_stored room member = (stored_nick room member.0, member.1)

-- NJOIN: of those that it names only new members are told of; to name others is no fault
abbrev pub njoin_line : Reader → Room → Option (List ℕ) → List (List ℕ) → Judged
njoin_line reader room (Some server) (channel ∷ text ∷ []) =
    of_server reader server (nat_le (length (members_of text)) members_a_line) true
    (is_channel channel && list_all (λ (member : List ℕ × Flags). is_nick member.0)
    (members_of text))
    (brought server channel
    (map (as_stored room) (new_members reader.is_far room channel (members_of text))))
njoin_line reader room _ _ = malformed_burst

-- ---- lines that tell of effects

-- what an effect comes to: where it gives a nickname that is held, its holder is killed, and who
-- was to have it is killed or not taken
abbrev pub collided : List ℕ → Room → Option (List ℕ) → Effect → List Deed
collided own room server (AddUser user) = introduced own room user
collided own room server (Rename nick new) = renamed_or_killed own room nick new
collided own room server other = kept_prefix server other ∷ []

-- What effects come to in this room: where a nickname is held already, users are killed instead.
abbrev pub effects_told : List ℕ → Room → Option (List ℕ) → Result (List Effect) WireFault
    → Result (List Told) CloseReason
effects_told own room prefix (Ok effects) =
    Ok (map a_deed (flat_map (collided own room (server_of prefix)) effects))
effects_told own room prefix (Err fault) = Err (wire_reason fault)

-- ---- the table

-- a command of the lines of servers, and what is looked at in a line of it
pub record BurstRow : Type 0 where
  pub command : List ℕ
  pub judge : Reader → Known → Room → Option (List ℕ) → List (List ℕ) → Judged

-- a row of the table
abbrev pub burst_line : List ℕ → (Reader → Known → Room → Option (List ℕ) → List (List ℕ) → Judged)
    → BurstRow
burst_line command judge = record { command = command; judge = judge }

-- the commands whose lines are judged here, and not as lines that tell of effects
abbrev pub burst_table : List BurstRow
burst_table =
    burst_line (codes "SERVER") (λ reader known room. server_line reader known)
    ∷ burst_line (codes "SQUIT") (λ reader known room. squit_line reader known)
    ∷ burst_line (codes "KILL") (λ reader known room. kill_line reader room)
    ∷ burst_line (codes "NJOIN") (λ reader known room. njoin_line reader room)
    ∷ burst_line (codes "PASS") (λ reader known room. pass_line) ∷ []

-- the row of a command, if it is one of these
abbrev pub burst_row_of : List ℕ → Option BurstRow
burst_row_of word = find (λ (r : BurstRow). is_command r.command word) burst_table

-- a line with any other command tells of effects, or is no line of the protocol
abbrev pub read_burst_row : Room → Known → ℕ → Parsed → Option BurstRow
    → Result (List Told) CloseReason
read_burst_row room known link message (Some r) =
    first_reason (r.judge (reader_of room known link) known room message.prefix message.params)
read_burst_row room known link message None =
    effects_told known.name room message.prefix (means room known link message)

-- what a line means that came by a link after its handshake
unfoldable pub deeds_meant : Room → Known → ℕ → Parsed → Result (List Told) CloseReason
deeds_meant room known link message =
    read_burst_row room known link message (burst_row_of message.command)
