-- What the code that reads a line of a server gives.
use Rattle.std.specs.Global.{Vec}
use Rattle.irc_line.specs.Messages.{Parsed}
use Rattle.irc_link_reader.specs.Means.{first_fault, is_mode_line}
use Rattle.std.specs.Prelude.{◌≡◌, ◌⊎◌, true, ℕ, Bool, not, length, nat_le, ◌&&◌, ◌++◌, IsOk}
use Rattle.std.specs.Prelude.{if◌then◌else◌, Option, Result, Ok, Err, List, [], ◌∷◌, map}
use Rattle.std.specs.Prelude.{Some, None, ◌||◌, ◌+◌, nat_eq}
use Rattle.std.specs.List.{list_all, list_any}
use Rattle.std.specs.Option.{option_map_or}
use Rattle.irc_batch.specs.declared.close_reason.CloseReason.{CloseReason}
use Rattle.irc_batch.specs.declared.close_reason.CloseReason.TheVariants as reason
use Rattle.irc_channels.specs.declared.flags.Flags.{Flags}
use Rattle.irc_merge.specs.Deeds.{does, kills}
use Rattle.irc_link_words.specs.declared.commands.EffectCommand.{EffectCommand}
use Rattle.irc_link_reader.specs.declared.deed.Deed.{Deed as Code}
use Rattle.irc_link_reader.specs.declared.deed.NewMember.{NewMember}
use Rattle.irc_link_reader.specs.Loops.Readings.{check_of, reader, takes_memory}
pub use Rattle.irc_link_reader.specs.Loops.Tellings.{GivesTold, told_of_deed, told_found, told_if}
pub use Rattle.irc_link_reader.specs.Loops.Tellings.{arrivals_told, killing_told, loss_told}
pub use Rattle.irc_link_reader.specs.Loops.Tellings.{server_told, setting_told, topic_told}
pub use Rattle.irc_link_reader.specs.Loops.Tellings.{told_members}
use Rattle.irc_burst.specs.declared.fault.BurstFault.{BurstFault}
use Rattle.irc_burst.specs.declared.fault.BurstFault.TheVariants.{Closes, Memory}
use Rattle.irc_burst.specs.declared.server_lines.ServerWords.{ServerWords}
use Rattle.irc_burst.specs.declared.njoin_line.MemberWords.{MemberWords}
use Rattle.irc_merge.specs.BurstRead.{is_new_member, new_members, brought, introduced}
use Rattle.irc_merge.specs.Bursts.{home_passes, members_a_line}
use Rattle.irc_names.specs.Fold.{key, same}
use Rattle.irc_names.specs.Names.{is_nick}
use Rattle.irc_room.specs.Effects.{is_member}
use Rattle.irc_room.specs.Seen.{stored_nick}
use Rattle.irc_room.specs.effect.Effect.{Effect}
use Rattle.irc_room.specs.effect.Effect.TheVariants.{AddUser, Rename}
use Rattle.irc_users.specs.declared.user.User.{User}
use Rattle.irc_room.specs.Room.{Room}
use Rattle.irc_burst.specs.DeedsMeant.{Told, a_deed, Judged, later_server}
use Rattle.irc_burst.specs.DeedsMeant.{server_line, squit_line, kill_line, killed, njoin_line}
use Rattle.irc_burst.specs.DeedsMeant.{as_stored, deeds_meant, effects_told}
use Rattle.irc_burst.specs.DeedsMeant.{is_next_distance, member_of, members_of, renamed_or_killed}
use Rattle.irc_link_reader.specs.Reader.{Reader}
use Rattle.irc_link_reader.specs.declared.arrival.Arrival.{Arrival}
use Rattle.irc_routes.specs.Known.{Known, is_known}

-- what deeds of the code tell
abbrev pub told_of_deeds : List Code → List Told
told_of_deeds deeds = map told_of_deed deeds

-- what is told more of
abbrev pub Appended : Vec Code → List Told → Vec Code → Type 0
Appended old told new = told_of_deeds new.items ≡ told_of_deeds old.items ++ told

-- ---- what effects come to

abbrev pub introduced_at : Arrival → User → List Told
introduced_at at user = map a_deed (introduced at.routes.now.name at.room.now.room user)

abbrev pub renamed_at : Arrival → List ℕ → List ℕ → List Told
renamed_at at nick new = map a_deed (renamed_or_killed at.routes.now.name at.room.now.room nick new)

abbrev pub kills_at : Arrival → List ℕ → Told
kills_at at nick = a_deed (kills at.routes.now.name nick)

-- What is told comes to this in a room: where a nickname is held already, users are killed instead.
abbrev pub collide : List ℕ → Room → Told → List Told
collide own room (a_deed (does (AddUser user))) = map a_deed (introduced own room user)
collide own room (a_deed (does (Rename nick new))) =
    map a_deed (renamed_or_killed own room nick new)
collide own room other = other ∷ []

abbrev pub collide_at : Arrival → Told → List Told
collide_at at told = collide at.routes.now.name at.room.now.room told

abbrev pub done_at : Arrival → Effect → List Told
done_at at effect = collide_at at (a_deed (does effect))

abbrev pub collided_if : Arrival → Option Code → List Told
collided_if at None = []
collided_if at (Some deed) = collide_at at (told_of_deed deed)

-- what a line of this command means, that tells of an effect
abbrev pub effect_line_at : EffectCommand → Arrival → Parsed → Result (List Told) CloseReason
effect_line_at command at message =
    effects_told at.routes.now.name at.room.now.room message.prefix
    (first_fault (check_of command (reader at) message.prefix message.params))

-- ---- what is read

-- what is read of a whole line
abbrev pub deeds_read : Result (Vec Code) CloseReason → Result (List Told) CloseReason
deeds_read (Ok deeds) = Ok (told_of_deeds deeds.items)
deeds_read (Err reason) = Err reason

-- what a line means that came so
abbrev pub meant_at : Arrival → Parsed → Result (List Told) CloseReason
meant_at at message = deeds_meant at.room.now.room at.routes.now at.link message

-- Memory may run out where the line means something, or is a MODE, whose reading takes memory.
abbrev pub MayWant : Parsed → Result (List Told) CloseReason → Type 0
MayWant message meant = (is_mode_line message ≡ true) ⊎ IsOk meant

-- the same of a line of this command
abbrev pub MayWantOf : EffectCommand → Result (List Told) CloseReason → Type 0
MayWantOf command meant = (takes_memory command ≡ true) ⊎ IsOk meant

-- what is looked at in lines that came so: a SERVER, a SQUIT and an NJOIN of these words
abbrev pub server_line_at : Arrival → Option (List ℕ) → List (List ℕ) → Judged
server_line_at at prefix words = server_line (reader at) at.routes.now prefix words

abbrev pub squit_line_at : Arrival → List ℕ → List (List ℕ) → Judged
squit_line_at at server words = squit_line (reader at) at.routes.now (Some server) words

abbrev pub njoin_line_at : Arrival → List ℕ → List (List ℕ) → Judged
njoin_line_at at server words = njoin_line (reader at) at.room.now.room (Some server) words

abbrev pub kill_line_at : Arrival → List ℕ → List (List ℕ) → Judged
kill_line_at at server words = kill_line (reader at) at.room.now.room (Some server) words

abbrev pub killed_at : Arrival → List ℕ → List ℕ → List Told
killed_at at server nick = map a_deed (killed server at.room.now.room nick)

-- what is looked at in the words of a later SERVER
abbrev pub server_judged : Reader → Known → List ℕ → ServerWords → Judged
server_judged reader known uplink words = later_server reader known uplink words.name.now
    words.distance.now words.token.now words.info.now

abbrev pub server_judged_at : Arrival → List ℕ → ServerWords → Judged
server_judged_at at uplink words = server_judged (reader at) at.routes.now uplink words

-- how far a server is that is linked to this one, where that one is known; and whether a server
-- that is lost is behind the link, or unknown
abbrev pub is_one_further : Arrival → List ℕ → ℕ → Bool
is_one_further at uplink distance =
    option_map_or (λ links. nat_eq distance (links + 1)) ((reader at).distance uplink) true

abbrev pub is_next_at : Arrival → List ℕ → ℕ → Bool
is_next_at at uplink distance = is_next_distance (reader at) uplink distance

abbrev pub may_be_lost : Arrival → List ℕ → Bool
may_be_lost at name = not (is_known at.routes.now name) || (reader at).is_far name

-- ---- NJOIN

-- whether a nickname is one of those of some members
abbrev pub is_member_among : List (List ℕ × Flags) → List ℕ → Bool
is_member_among members nick = list_any (λ (member : List ℕ × Flags). same member.0 nick) members

-- whether a text names no more members than one line may bring, and each by a nickname
abbrev pub are_few : List ℕ → Bool
are_few text = nat_le (length (members_of text)) members_a_line

abbrev pub has_member_nick : List ℕ → Bool
has_member_nick word = is_nick (member_of word).0

abbrev pub are_named : List ℕ → Bool
are_named text = list_all (λ member. is_nick member.0) (members_of text)

abbrev pub members_brought : List ℕ → List ℕ → List NewMember → List Told
members_brought server channel members = map a_deed (brought server channel (told_members members))

-- the nickname of one who becomes a member, as it is stored
abbrev pub new_nick : Arrival → List ℕ → List ℕ → Option (List ℕ)
new_nick at nick channel =
    if home_passes (reader at).is_far at.room.now.room.users (key nick)
    && not (is_member at.room.now.room nick channel)
    then Some (stored_nick at.room.now.room nick) else None

-- one more becomes a member, if it is a new one and none of those before
abbrev pub taken_as_stored : (List ℕ → Bool) → Room → List ℕ → List (List ℕ × Flags)
    → List ℕ × Flags → List (List ℕ × Flags)
taken_as_stored far room channel members member =
    if is_new_member far room channel member && not (is_member_among members member.0)
    then members ++ as_stored room member ∷ [] else members

-- the same of a line that came so, and all who become members by one
abbrev pub taken_at : Arrival → List ℕ → List (List ℕ × Flags) → List ℕ × Flags
    → List (List ℕ × Flags)
taken_at at channel = taken_as_stored (reader at).is_far at.room.now.room channel

abbrev pub new_members_at : Arrival → List ℕ → List ℕ → List (List ℕ × Flags)
new_members_at at channel text =
    map (as_stored at.room.now.room)
    (new_members (reader at).is_far at.room.now.room channel (members_of text))

abbrev pub brought_of : Reader → Room → MemberWords → List Told
brought_of reader room words =
    map a_deed (brought words.server words.channel (map (as_stored room)
    (new_members reader.is_far room words.channel (members_of words.text.now))))

abbrev pub members_found : Reader → Room → Result MemberWords CloseReason
    → Result (List Told) CloseReason
members_found reader room (Ok words) = Ok (brought_of reader room words)
members_found reader room (Err given) = Err given

-- ---- a whole line

-- What is read is what the line means, or why it closes the link. Memory may run out where the line
-- means something, or is a MODE, whose reading takes memory: it is never told in place of another
-- line's fault.
abbrev pub IsBurstMeant : Parsed → Result (List Told) CloseReason → Result (Vec Code) BurstFault
    → Type 0
IsBurstMeant message meant (Ok deeds) = meant ≡ Ok (told_of_deeds deeds.items)
IsBurstMeant message meant (Err Memory) = MayWant message meant
IsBurstMeant message meant (Err (Closes reason)) = meant ≡ Err reason

-- the same of a line that came by a link, in a room and by routes
abbrev pub IsReadIn : Room → Known → ℕ → Parsed → Result (Vec Code) BurstFault → Type 0
IsReadIn room known link message result =
    IsBurstMeant message (deeds_meant room known link message) result
