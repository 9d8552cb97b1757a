-- The small networks, computed.
use Rattle.std.proofs.Common.{◌≡◌, ℕ, false, Option, Some, None, List, [], ◌∷◌, ◌++◌, not, cond}
use Rattle.std.proofs.Common.{is_some, option_map, refl, ◌∙◌, ap, codes, if◌then◌else◌}
use Rattle.std.specs.Cmp.{nat_cmp_total}
use Rattle.std.specs.Option.{option_map_or}
use Rattle.std.specs.FinMap.{get, from_entries, retain_keys, get-from_entries}
use Rattle.std.specs.FinMap.Entries.{find}
use Rattle.std.specs.Ordering.{nat_cmp}
use Rattle.irc_names.specs.Fold.{fold, fold_table, key}
use Rattle.irc_names.specs.Names.{is_key}
use Rattle.irc_names.specs.Tables.{fold_cmp, row}
use Rattle.irc_channels.specs.declared.channel.Channel.{Channel}
use Rattle.irc_line.specs.Bytes.{cut as cut_line}
use Rattle.irc_line.specs.Messages.{line_text}
use Rattle.irc_relay.specs.Links.{Name, Link, part, joined, links_without}
use Rattle.irc_room.specs.effect.Effect.{Effect}
use Rattle.irc_room.specs.Examples.{room_after}
use Rattle.irc_room.specs.Lemmas.ListedRooms.{ListedRoom, channel_of, room_of, no_list, all_listed}
use Rattle.irc_room.specs.Lemmas.ExampleRooms.{list_room}
use Rattle.irc_merge.specs.Examples.{modes_written}
use Rattle.irc_merge.specs.Bursts.{in_lines}
use Rattle.irc_merge.specs.Split.{split}
use Rattle.irc_merge.specs.Merge.{joined_channel, merge}
use Rattle.irc_merge.specs.Lemmas.ListedMerge.{AreInOrder, CanBeListed, list_without}
use Rattle.irc_merge.specs.Lemmas.ListedMerge.{channel_merged}
use Rattle.irc_stage.specs.declared.clients.Client.{Client}
use Rattle.irc_stage.specs.RoomMachine.{Clients}
use Rattle.irc_world.specs.World.{home_of}
use Rattle.irc_world.specs.Stepping.{link, step, clashes_in, merged, meeting_lines, split_text}
use Rattle.irc_world.specs.Stepping.{servers_on_side, leaving_lines}
use Rattle.irc_world.specs.Refused.{refused, no_such_client}
use Rattle.irc_world.specs.Networks.{SidesAreJoined, als_settings, bos_settings, a_connects}
use Rattle.irc_world.specs.Networks.{b_connects, PeopleMeet, LinkIsLost, LinkIsBack, back_again}
use Rattle.irc_world.specs.Networks.{b_to_c, three_clients, three_doings, three_people, in_a_line}
use Rattle.irc_world.specs.Networks.{cut_off, als_clients, als_doings, bos_clients, bos_doings}
use Rattle.irc_world.specs.Networks.{NicknamesClash, zeds_clients, zeds_doings, other_zeds_clients}
use Rattle.irc_world.specs.Networks.{other_zeds_doings, with_zed, with_other_zed, hall_after}
use Rattle.irc_world.specs.Networks.{three_peers, two_apart, als_people, bos_people}
use Rattle.irc_world.specs.Lemmas.MergedClients.{first_of, survivor, get-kept, get-merged}
use Rattle.irc_world.proofs.ListedHalls.{list_lost, list_split, split_listed, InOrderLeaving}
use Rattle.irc_world.proofs.ListedHalls.{list_seen_leaving, leaving_listed, servers_listed, hall_of}
use Rattle.irc_world.proofs.ListedHalls.{list_clashes, clashes_listed, list_meeting, meeting_listed}

made : (clients : List (ℕ × Client)) (effects : List Effect)
    → hall_after clients effects ≡ hall_of (from_entries clients) (list_room effects)
made clients effects =
    λ i. record { clients = from_entries clients; room = all_listed no_list effects i }

-- what a client receives whose number stands in one of two lists
pub met : (clients others : List (ℕ × Client)) (effects other_effects : List Effect) (client : ℕ)
    → CanBeListed (list_room effects) (list_room other_effects) → CanBeListed
    (list_room other_effects) (list_room effects) → meeting_lines (hall_after clients effects)
    (hall_after others other_effects) (get (from_entries {R = nat_cmp} clients) client)
    ++ meeting_lines (hall_after others other_effects) (hall_after clients effects)
    (get (from_entries {R = nat_cmp} others) client)
    ≡ list_meeting (list_room effects) (list_room other_effects) (find nat_cmp client clients)
    ++ list_meeting (list_room other_effects) (list_room effects) (find nat_cmp client others)
met clients others effects other_effects client there back =
    (λ i. meeting_lines (made clients effects i) (made others other_effects i)
    (get-from_entries nat_cmp_total clients client i)
    ++ meeting_lines (made others other_effects i) (made clients effects i)
    (get-from_entries nat_cmp_total others client i))
    ∙ (λ i. meeting_listed (from_entries clients) (from_entries others) (list_room effects)
    (list_room other_effects) there (find nat_cmp client clients) i
    ++ meeting_listed (from_entries others) (from_entries clients) (list_room other_effects)
    (list_room effects) back (find nat_cmp client others) i)

-- ---- people meet

abbrev als : ListedRoom
als = list_room als_doings

abbrev bos : ListedRoom
bos = list_room bos_doings

pub als_in_order : AreInOrder als
unfolding fold fold_table
als_in_order = record { users = tt; channels = tt; members = (tt, tt) }

pub bos_in_order : AreInOrder bos
unfolding fold fold_table
bos_in_order = record { users = tt; channels = tt; members = (tt, tt) }

als_left : AreInOrder (list_without als bos)
unfolding fold fold_table
als_left = record { users = tt; channels = tt; members = (tt, tt) }

bos_left : AreInOrder (list_without bos als)
unfolding fold fold_table
bos_left = record { users = tt; channels = tt; members = (tt, tt) }

als_listed : CanBeListed als bos
unfolding fold fold_table
als_listed = record { first = als_in_order; second = bos_in_order; along = tt; left = bos_left }

bos_listed : CanBeListed bos als
unfolding fold fold_table
bos_listed = record { first = bos_in_order; second = als_in_order; along = tt; left = als_left }

abbrev meet : ℕ → List (List ℕ)
meet client = (step three_peers (two_apart als_people bos_people)
    (link (codes "a.net") (codes "b.net"))).out client

abbrev list_meet : ℕ → List (List ℕ)
list_meet client =
    list_meeting als bos (find nat_cmp client als_clients)
    ++ list_meeting bos als (find nat_cmp client bos_clients)

meet_listed : (client : ℕ) → meet client ≡ list_meet client
unfolding step part
meet_listed client = met als_clients bos_clients
    als_doings
    bos_doings client als_listed bos_listed

pub people_meet : PeopleMeet
unfolding refused part fold fold_table cut_line line_text in_lines
people_meet = record {
  taken = refl;
  to_al = meet_listed 1;
  to_an = meet_listed 2;
  to_bo = meet_listed 3;
  to_cy = meet_listed 4;
}

-- ---- two sides that differ

abbrev als_set : ListedRoom
als_set = list_room als_settings

abbrev bos_set : ListedRoom
bos_set = list_room bos_settings

als_set_in_order : AreInOrder als_set
unfolding fold fold_table is_key
als_set_in_order = record { users = tt; channels = tt; members = (tt, tt) }

bos_set_in_order : AreInOrder bos_set
unfolding fold fold_table is_key
bos_set_in_order = record { users = tt; channels = tt; members = (tt, tt) }

als_set_listed : CanBeListed als_set bos_set
unfolding fold fold_table is_key
als_set_listed = record {
  first = als_set_in_order;
  second = bos_set_in_order;
  along = tt;
  left = bos_set_in_order;
}

bos_set_listed : CanBeListed bos_set als_set
unfolding fold fold_table is_key
bos_set_listed = record {
  first = bos_set_in_order;
  second = als_set_in_order;
  along = tt;
  left = als_set_in_order;
}

joined_there : (client : ℕ) → a_connects.out client
    ≡ list_meeting als_set bos_set (find nat_cmp client als_clients)
    ++ list_meeting bos_set als_set (find nat_cmp client bos_clients)
unfolding step part
joined_there client =
    met als_clients bos_clients als_settings bos_settings client als_set_listed bos_set_listed

joined_back : (client : ℕ) → b_connects.out client
    ≡ list_meeting bos_set als_set (find nat_cmp client bos_clients)
    ++ list_meeting als_set bos_set (find nat_cmp client als_clients)
unfolding step part
joined_back client =
    met bos_clients als_clients bos_settings als_settings client bos_set_listed als_set_listed

-- #c of both rooms
abbrev both_channels : List Effect → List Effect → Option Channel
both_channels one other =
    row (merge (room_after one) (room_after other)).channels (key (codes "#c"))

abbrev listed_channels : ListedRoom → ListedRoom → Option Channel
listed_channels one other =
    joined_channel
    (option_map channel_of (find fold_cmp (key (codes "#c")) (list_without one other).channels))
    (option_map channel_of (find fold_cmp (key (codes "#c")) (list_without other one).channels))

both_listed : (one other : List Effect) → AreInOrder (list_room one) → AreInOrder (list_room other)
    → both_channels one other ≡ listed_channels (list_room one) (list_room other)
both_listed one other first second =
    (λ i. row (merge (all_listed no_list one i) (all_listed no_list other i)).channels
    (key (codes "#c")))
    ∙ channel_merged (list_room one) (list_room other) first second (key (codes "#c"))

-- what is set in it, and its topic
modes_of_both : (one other : List Effect) → AreInOrder (list_room one)
    → AreInOrder (list_room other) → option_map modes_written (both_channels one other)
    ≡ option_map modes_written (listed_channels (list_room one) (list_room other))
modes_of_both one other first second =
    ap (option_map modes_written) (both_listed one other first second)

topic_of_both : (one other : List Effect) → AreInOrder (list_room one)
    → AreInOrder (list_room other) → option_map (λ (c : Channel). c.topic) (both_channels one other)
    ≡ option_map (λ (c : Channel). c.topic) (listed_channels (list_room one) (list_room other))
topic_of_both one other first second =
    ap (option_map (λ (c : Channel). c.topic)) (both_listed one other first second)

pub sides_are_joined : SidesAreJoined
unfolding refused step part fold fold_table is_key cut_line line_text in_lines
sides_are_joined = record {
  taken = refl;
  to_al = joined_there 1;
  to_an = joined_there 2;
  to_bo = joined_there 3;
  to_cy = joined_there 4;
  modes_here = modes_of_both als_settings bos_settings als_set_in_order bos_set_in_order;
  modes_there = modes_of_both als_settings bos_settings als_set_in_order bos_set_in_order;
  topic_there = topic_of_both als_settings bos_settings als_set_in_order bos_set_in_order;
  taken_back = refl;
  back_to_al = joined_back 1;
  back_to_bo = joined_back 3;
  modes_back = modes_of_both bos_settings als_settings bos_set_in_order als_set_in_order;
}

-- ---- a nickname on both sides

abbrev zeds : ListedRoom
zeds = list_room zeds_doings

abbrev other_zeds : ListedRoom
other_zeds = list_room other_zeds_doings

pub zeds_in_order : AreInOrder zeds
unfolding fold fold_table
zeds_in_order = record { users = tt; channels = tt; members = (tt, (tt, tt)) }

pub other_zeds_in_order : AreInOrder other_zeds
unfolding fold fold_table
other_zeds_in_order = record { users = tt; channels = tt; members = (tt, tt) }

zeds_left : AreInOrder (list_without zeds other_zeds)
unfolding fold fold_table
zeds_left = record { users = tt; channels = tt; members = (tt, tt) }

other_zeds_left : AreInOrder (list_without other_zeds zeds)
unfolding fold fold_table
other_zeds_left = record { users = tt; channels = tt; members = (tt, tt) }

zeds_listed : CanBeListed zeds other_zeds
unfolding fold fold_table
zeds_listed = record {
  first = zeds_in_order;
  second = other_zeds_in_order;
  along = (zeds_in_order, tt);
  left = other_zeds_left;
}

other_zeds_listed : CanBeListed other_zeds zeds
unfolding fold fold_table
other_zeds_listed = record {
  first = other_zeds_in_order;
  second = zeds_in_order;
  along = (other_zeds_in_order, tt);
  left = zeds_left;
}

abbrev clash_lines : ℕ → List (List ℕ)
clash_lines client = (step three_peers (two_apart with_zed with_other_zed)
    (link (codes "a.net") (codes "b.net"))).out client

clash_listed : (client : ℕ) → clash_lines client
    ≡ list_meeting zeds other_zeds (find nat_cmp client zeds_clients)
    ++ list_meeting other_zeds zeds (find nat_cmp client other_zeds_clients)
unfolding step part
clash_listed client = met zeds_clients other_zeds_clients zeds_doings other_zeds_doings client
    zeds_listed other_zeds_listed

-- a client of one side that survives
survivor_listed : (clients : List (ℕ × Client)) (effects : List Effect) (client : ℕ)
    → survivor (room_after effects) (from_entries {R = nat_cmp} clients) client
    ≡ cond (not (list_clashes (list_room effects) (find nat_cmp client clients)))
    (find nat_cmp client clients) None
survivor_listed clients effects client =
    (λ i. cond (not (clashes_in (all_listed no_list effects i)
    (get-from_entries nat_cmp_total clients client i)))
    (get-from_entries nat_cmp_total clients client i) None)
    ∙ ap (λ b. cond (not b) (find nat_cmp client clients) None)
    (clashes_listed (list_room effects) (find nat_cmp client clients))

-- who was killed is no client
killed : get (merged with_zed with_other_zed).clients 2 ≡ None
unfolding fold fold_table
killed =
    get-merged with_zed with_other_zed 2
    ∙ (λ i. first_of (survivor_listed zeds_clients other_zeds_doings 2 i)
    (survivor_listed other_zeds_clients zeds_doings 2 i))

pub nicknames_clash : NicknamesClash
unfolding refused step part fold fold_table cut_line line_text
nicknames_clash = record {
  taken = refl;
  to_al = clash_listed 1;
  to_zed = clash_listed 2;
  to_bo = clash_listed 3;
  to_other_zed = clash_listed 4;
  zed_is_gone = ap (λ o. if is_some o then None else Some no_such_client) killed;
}

-- ---- a link is lost

abbrev pub three : ListedRoom
three = list_room three_doings

abbrev a_net : Name
a_net = codes "a.net"

abbrev b_net : Name
b_net = codes "b.net"

abbrev rest : List Link
rest = b_to_c ∷ []

pub three_in_order : AreInOrder three
unfolding fold fold_table
three_in_order = record { users = tt; channels = tt; members = (tt, (tt, tt)) }

behind_b : servers_on_side three_peers rest b_net ≡ b_net ∷ codes "c.net" ∷ []
unfolding part
behind_b = servers_listed three_peers (joined rest b_net) tt

behind_a : servers_on_side three_peers rest a_net ≡ a_net ∷ []
unfolding part
behind_a = servers_listed three_peers (joined rest a_net) tt

als_leaving : InOrderLeaving (split_text a_net b_net) three
    (list_lost (b_net ∷ codes "c.net" ∷ []) three)
unfolding fold fold_table
als_leaving = (three_in_order, (record { users = tt; channels = tt; members = (tt, (tt, tt)) }, tt))

others_leaving : InOrderLeaving (split_text b_net a_net) three (list_lost (a_net ∷ []) three)
unfolding fold fold_table
others_leaving = (three_in_order, tt)

pub three_made : three_people.room ≡ room_of three
three_made = all_listed no_list three_doings

-- the client of a number on the side of one end
abbrev left_on : Name → ℕ → Option Client
left_on one client =
    cond (option_map_or (joined rest one) (home_of (in_a_line three_people) client) false)
    (find nat_cmp client three_clients) None

client_left : (one other : Name) (client : ℕ)
    → get (retain_keys (from_entries {R = nat_cmp} three_clients)
    (λ c. option_map_or (joined rest one) (home_of (in_a_line three_people) c) false)) client
    ≡ left_on one client
client_left one other client =
    get-kept (from_entries three_clients)
    (λ c. option_map_or (joined rest one) (home_of (in_a_line three_people) c) false) client
    ∙ ap (λ o. cond
    (option_map_or (joined rest one) (home_of (in_a_line three_people) client) false) o None)
    (get-from_entries nat_cmp_total three_clients client)

lost_lines : (client : ℕ) → cut_off.out client
    ≡ list_seen_leaving (split_text a_net b_net) (b_net ∷ codes "c.net" ∷ []) three
    (left_on a_net client)
    ++ list_seen_leaving (split_text b_net a_net) (a_net ∷ []) three (left_on b_net client)
unfolding step part links_without
lost_lines client =
    (λ i. leaving_lines three_peers rest a_net b_net (three_made i)
    (client_left a_net b_net client i)
    ++ leaving_lines three_peers rest b_net a_net (three_made i) (client_left b_net a_net client i))
    ∙ (λ i. leaving_listed three_peers rest a_net b_net three three_in_order
    (b_net ∷ codes "c.net" ∷ []) behind_b als_leaving (left_on a_net client) i
    ++ leaving_listed three_peers rest b_net a_net three three_in_order
    (a_net ∷ []) behind_a others_leaving (left_on b_net client) i)

pub link_is_lost : LinkIsLost
unfolding refused part fold fold_table cut_line line_text
link_is_lost = record {
  taken = refl;
  to_al = lost_lines 1;
  to_bo = lost_lines 2;
  to_cy = lost_lines 3;
}

-- ---- the link is back

abbrev pub als_side : ListedRoom
als_side = list_split (split_text a_net b_net) (b_net ∷ codes "c.net" ∷ []) three

abbrev pub others_side : ListedRoom
others_side = list_split (split_text b_net a_net) (a_net ∷ []) three

pub als_side_in_order : AreInOrder als_side
unfolding fold fold_table
als_side_in_order = record { users = tt; channels = tt; members = (tt, (tt, tt)) }

pub others_side_in_order : AreInOrder others_side
unfolding fold fold_table
others_side_in_order = record { users = tt; channels = tt; members = (tt, (tt, tt)) }

als_side_left : AreInOrder (list_without als_side others_side)
unfolding fold fold_table
als_side_left = record { users = tt; channels = tt; members = (tt, (tt, tt)) }

others_side_left : AreInOrder (list_without others_side als_side)
unfolding fold fold_table
others_side_left = record { users = tt; channels = tt; members = (tt, (tt, tt)) }

als_side_listed : CanBeListed als_side others_side
unfolding fold fold_table
als_side_listed = record {
  first = als_side_in_order;
  second = others_side_in_order;
  along = tt;
  left = others_side_left;
}

others_side_listed : CanBeListed others_side als_side
unfolding fold fold_table
others_side_listed = record {
  first = others_side_in_order;
  second = als_side_in_order;
  along = tt;
  left = als_side_left;
}

abbrev kept_on : Name → Clients
kept_on one = retain_keys (from_entries {R = nat_cmp} three_clients)
    (λ c. option_map_or (joined rest one) (home_of (in_a_line three_people) c) false)

side_made : (one other : Name) (homes : List Name) → servers_on_side three_peers rest other ≡ homes
    → split (split_text one other) (servers_on_side three_peers rest other) three_people.room
    ≡ room_of (list_split (split_text one other) homes three)
side_made one other homes are =
    (λ i. split (split_text one other) (are i) (three_made i))
    ∙ split_listed (split_text one other) homes three three_in_order

pub als_hall : cut_off.state.hall a_net ≡ hall_of (kept_on a_net) als_side
unfolding step part links_without
als_hall = λ i. record {
  clients = kept_on a_net;
  room = side_made a_net b_net (b_net ∷ codes "c.net" ∷ []) behind_b i;
}

pub others_hall : cut_off.state.hall b_net ≡ hall_of (kept_on b_net) others_side
unfolding step part links_without
others_hall =
    λ i. record { clients = kept_on b_net; room = side_made b_net a_net (a_net ∷ []) behind_a i }

back_lines : (client : ℕ) → back_again.out client
    ≡ list_meeting als_side others_side (left_on a_net client)
    ++ list_meeting others_side als_side (left_on b_net client)
unfolding step
back_lines client =
    (λ i. meeting_lines (als_hall i) (others_hall i) (get (als_hall i).clients client)
    ++ meeting_lines (others_hall i) (als_hall i) (get (others_hall i).clients client))
    ∙ (λ i. meeting_lines (hall_of (kept_on a_net) als_side) (hall_of (kept_on b_net) others_side)
    (client_left a_net b_net client i)
    ++ meeting_lines (hall_of (kept_on b_net) others_side) (hall_of (kept_on a_net) als_side)
    (client_left b_net a_net client i))
    ∙ (λ i. meeting_listed (kept_on a_net) (kept_on b_net) als_side others_side als_side_listed
    (left_on a_net client) i
    ++ meeting_listed (kept_on b_net) (kept_on a_net) others_side als_side others_side_listed
    (left_on b_net client) i)

pub link_is_back : LinkIsBack
unfolding refused step part links_without fold fold_table cut_line line_text in_lines
link_is_back = record {
  taken = refl;
  to_al = back_lines 1;
  to_bo = back_lines 2;
  to_cy = back_lines 3;
}
