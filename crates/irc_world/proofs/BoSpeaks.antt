-- What bo says in a channel, computed.
use Rattle.std.proofs.Common.{◌≡◌, ℕ, true, false, cond, not, ◌&&◌, ◌||◌, T, Option, Some, None, Ok}
use Rattle.std.proofs.Common.{List, [], ◌∷◌, ◌++◌, refl, sym, ◌∙◌, ap, map, is_some, option_map}
use Rattle.std.proofs.Common.{filter_map, codes, if◌then◌else◌}
use Rattle.std.specs.List.{flat_map}
use Rattle.std.specs.Option.{option_map_or}
use Rattle.std.specs.Ordering.{nat_cmp}
use Rattle.std.specs.Cmp.{nat_cmp_total}
use Rattle.std.specs.FinMap.{entries, values, from_entries, from_sorted, is_sorted}
use Rattle.std.specs.FinMap.{get-from_entries, get-from_sorted, entries-from_sorted, same_map}
use Rattle.std.specs.FinMap.{nat_cmp-IsAntisymmetric}
use Rattle.irc_names.specs.Fold.{fold, fold_table, key, same}
use Rattle.irc_names.specs.Tables.{row}
use Rattle.irc_line.specs.Bytes.{crlf}
use Rattle.irc_line.specs.Bytes.{cut as cut_line}
use Rattle.irc_line.specs.Messages.{Parsed, line_text, text}
use Rattle.irc_line.specs.Reading.{read_of}
use Rattle.irc_users.specs.declared.user.User.{User}
use Rattle.irc_modes.specs.Modes.{no_modes}
use Rattle.irc_channels.specs.declared.flags.Flags.{Flags}
use Rattle.irc_channels.specs.declared.channel.Channel.{Channel}
use Rattle.irc_channels.specs.Channels.{has_member}
use Rattle.irc_numerics.specs.declared.replies.Reply.TheVariants.{CannotSendToChan}
use Rattle.irc_room.specs.effect.Target.TheVariants as target
use Rattle.irc_room.specs.effect.Effect.{Effect}
use Rattle.irc_room.specs.effect.Effect.TheVariants.{Say}
use Rattle.irc_room.specs.Room.{Room}
use Rattle.irc_room.specs.Examples.{somebody}
use Rattle.irc_room.specs.Seen.{Showing, seen, shown_to, parts_of, full_sender}
use Rattle.irc_room.specs.Lemmas.Listed.{row_listed}
use Rattle.irc_room.specs.Lemmas.ListedRooms.{ListedChannel, channel_of, room_of, lists_member}
use Rattle.irc_room.specs.Lemmas.ListedRooms.{member_listed}
use Rattle.irc_room.specs.Lemmas.ListedSeen.{user_listed, channel_listed}
use Rattle.irc_relay.specs.Links.{part}
use Rattle.irc_acts.specs.declared.act.Act.TheVariants.{Answer, Do}
use Rattle.irc_acts.specs.Acts.{bytes_kept}
use Rattle.irc_acts.specs.CommaLists.{entries as pieces}
use Rattle.irc_acts.specs.Standing.{is_banned}
use Rattle.irc_commands.specs.declared.say.Verb.TheVariants as verb
use Rattle.irc_commands.specs.Decide.{decide, decide_for}
use Rattle.irc_commands.specs.Decisions.{Decided, does}
use Rattle.irc_commands.specs.Say.{say_steps, is_raised, say_text, to_channel}
use Rattle.irc_commands.specs.Table.{command_row}
use Rattle.irc_routes.specs.Place.{Place}
use Rattle.irc_stage.specs.declared.clients.Client.{Client}
use Rattle.irc_batch.specs.Batches.{Sent, line_to}
use Rattle.irc_stage.specs.RoomMachine.{RoomMachine}
use Rattle.irc_stage.specs.Handle.{says as speaks, handled, said_by, user_decided, decided}
use Rattle.irc_stage.specs.Handle.{is_client}
use Rattle.irc_server.specs.Owed.{lines_to}
use Rattle.irc_world.specs.World.{machine_at}
use Rattle.irc_world.specs.Stepping.{step}
use Rattle.irc_world.specs.Refused.{refused, no_such_client}
use Rattle.irc_world.specs.Networks.{BoIsHeard, three_peers, three_clients, three_people, in_a_line}
use Rattle.irc_world.specs.Networks.{bo_speaks}
use Rattle.irc_world.proofs.ListedHalls.{users_listed}
use Rattle.irc_world.proofs.NetworksProved.{three, three_made, three_in_order}

-- ---- who is there

abbrev bo : User
bo = somebody (codes "bo") (codes "h") (codes "b.net")

abbrev plain : Flags
plain = record { op = false; voice = false }

abbrev the_channel : ListedChannel
the_channel = record {
  name = codes "#c";
  modes = no_modes;
  topic = codes "hello";
  members = (codes "al", record { op = true; voice = false }) ∷ (codes "bo", plain)
      ∷ (codes "cy", plain) ∷ [];
  invited = [];
}

pub bo_there : row three_people.room.users (key (codes "bo")) ≡ Some bo
unfolding fold fold_table
bo_there = ap (λ (r : Room). row r.users (key (codes "bo"))) three_made
    ∙ user_listed three (key (codes "bo"))

channel_there : row (room_of three).channels (key (codes "#c")) ≡ Some (channel_of the_channel)
unfolding fold fold_table
channel_there = channel_listed three (key (codes "#c"))

bo_member : row (channel_of the_channel).members (key (codes "bo")) ≡ Some plain
unfolding fold fold_table
bo_member = row_listed (λ f. f) the_channel.members (key (codes "bo"))

-- ---- what is decided

abbrev pub message : Parsed
message = record { prefix = None; command = codes "PRIVMSG"; params = codes "#c" ∷ codes "hi" ∷ [] }

pub is_read : read_of (codes "PRIVMSG #c :hi") ≡ Ok message
unfolding read_of
is_read = refl

abbrev pub spoken : Effect
spoken = Say (codes "bo") false (target.Channel (codes "#c")) (bytes_kept (codes "hi"))

abbrev in_channel : Option Channel → Decided
in_channel found = does ((to_channel bo verb.Privmsg (codes "#c") (codes "hi") found ++ []) ++ [])

abbrev with_flags : Option Flags → Decided
with_flags flags =
    does ((cond ((not the_channel.modes.no_outside || is_some flags)
    && (not the_channel.modes.moderated || is_raised flags)
    && (is_raised flags || not (is_banned bo (channel_of the_channel))))
    (say_text bo verb.Privmsg (target.Channel (codes "#c")) (codes "#c") (codes "hi"))
    (Answer (CannotSendToChan (codes "#c")) ∷ []) ++ []) ++ [])

pub decides : (place : Place)
    → decide three_people.room place (codes "bo") message ≡ does (Do spoken ∷ [])
unfolding decide command_row say_steps pieces
decides place =
    ap (decide_for three_people.room place message) bo_there
    ∙ ap in_channel (ap (λ (r : Room). row r.channels (key (codes "#c"))) three_made
    ∙ channel_there)
    ∙ ap with_flags bo_member

-- ---- who sees it

abbrev list_shown : User → Option Showing
list_shown user =
    if not (same (codes "bo") user.nick) && option_map_or (lists_member (key user.nick))
    (Some the_channel) false
    then Some (record { viewer = user.nick; line = codes ":bo!u@h PRIVMSG #c :hi" ++ crlf })
    else None

shown_listed : (user : User) → shown_to (room_of three) spoken user ≡ list_shown user
unfolding fold fold_table cut_line line_text
shown_listed user =
    (λ i. if not (same (codes "bo") user.nick)
    && (ap (λ o. option_map_or (has_member (key user.nick)) o false) channel_there
    ∙ member_listed (key user.nick) the_channel) i
    then option_map (λ line. record { viewer = user.nick; line = line })
    (option_map text (parts_of (codes "PRIVMSG")
    (option_map_or (λ (c : Channel). c.name) (channel_there i) (codes "#c") ∷ [])
    (Some (codes "hi"))
    (option_map full_sender (user_listed three (key (codes "bo")) i)))) else None)

all_shown : (users : List User)
    → filter_map (shown_to (room_of three) spoken) users ≡ filter_map list_shown users
all_shown users = λ i. filter_map (λ user. shown_listed user i) users

seen_is : seen three_people.room spoken ≡ filter_map list_shown (map (λ e. e.1) three.users)
unfolding seen
seen_is =
    (λ i. filter_map (shown_to (three_made i) spoken) (values (three_made i).users))
    ∙ ap (filter_map (shown_to (room_of three) spoken)) (users_listed three three_in_order)
    ∙ all_shown (map (λ e. e.1) three.users)

clients_listed : (es : List (ℕ × Client)) → T (is_sorted nat_cmp es)
    → entries (from_entries {R = nat_cmp} es) ≡ es
clients_listed es rise =
    ap entries (same_map nat_cmp_total nat_cmp-IsAntisymmetric (from_entries es)
    (from_sorted es) (λ q.
    get-from_entries nat_cmp_total es q ∙ sym (get-from_sorted nat_cmp es q rise)))
    ∙ entries-from_sorted nat_cmp es rise

abbrev list_viewer : Showing → List Sent
list_viewer showing = filter_map (λ (c : ℕ × Client). if is_client showing.viewer c.1
    then Some (line_to c.0 showing.line) else None) three_clients

-- ---- what each client receives

module _ (place : Place) where
  abbrev machine : RoomMachine
  machine = record { place = place; clients = three_people.clients; room = three_people.room }

  handles : (handled machine (speaks 2 (read_of (codes "PRIVMSG #c :hi")))).out
      ≡ flat_map list_viewer (filter_map list_shown (map (λ e. e.1) three.users))
  unfolding handled
  handles =
      ap (λ read. (handled machine (speaks 2 read)).out) is_read
      ∙ ap (λ o. (said_by machine 2 o message).out) (get-from_entries nat_cmp_total three_clients 2)
      ∙ ap (λ o. (user_decided machine 2 o message).out) bo_there
      ∙ ap (λ d. (decided machine 2 (Some (codes "bo")) d).out) (decides place)
      ∙ (λ i. flat_map (λ showing. filter_map (λ (c : ℕ × Client). if is_client showing.viewer c.1
      then Some (line_to c.0 showing.line) else None)
      (clients_listed three_clients tt i)) (seen_is i))

heard : (client : ℕ) → bo_speaks.out client ≡ lines_to client
    (flat_map list_viewer (filter_map list_shown (map (λ e. e.1) three.users)))
unfolding step part
heard client = ap (lines_to client)
    (handles (machine_at three_peers (in_a_line three_people) (codes "b.net")).place)

pub bo_is_heard : BoIsHeard
unfolding refused part fold fold_table
bo_is_heard = record {
  taken = ap (λ o. if is_some o then None else Some no_such_client)
      (get-from_entries nat_cmp_total three_clients 2);
  to_al = heard 1;
  to_bo = heard 2;
  to_cy = heard 3;
}
