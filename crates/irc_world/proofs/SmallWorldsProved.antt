-- The small networks of `SmallWorlds`, computed.
use Rattle.std.proofs.Common.{◌≡◌, ℕ, Bool, true, false, cond, ◌+◌, ◌*◌, ◌-◌, T, Option, Some, None}
use Rattle.std.proofs.Common.{List, [], ◌∷◌, ◌++◌, length, refl, sym, ◌∙◌, ap, is_some, map}
use Rattle.std.proofs.Common.{filter_map, option_map, codes}
use Rattle.std.specs.List.{cons_option}
use Rattle.std.specs.Option.{option_and_then, option_map_or}
use Rattle.std.specs.Cmp.{nat_cmp_total}
use Rattle.std.specs.FinMap.{get, from_entries, retain_keys, values, get-empty, get-from_entries}
use Rattle.std.specs.FinMap.Entries.{find, is_sorted}
use Rattle.std.specs.Ordering.{nat_cmp}
use Rattle.std.proofs.lemmas.Iterator.Adapters.{option_map_id}
use Rattle.irc_names.specs.Fold.{fold, fold_table, key}
use Rattle.irc_names.specs.Tables.{Table, fold_cmp, row, tabulate}
use Rattle.irc_names.specs.TableLaws.{same_fold, one_fold, row-put, same_table, row-each}
use Rattle.irc_line.specs.Bytes.{cut as cut_line}
use Rattle.irc_line.specs.Messages.{line_text}
use Rattle.irc_users.specs.declared.user.User.{User}
use Rattle.irc_users.specs.UserTable.{is_home}
use Rattle.irc_channels.specs.declared.channel.Channel.{Channel}
use Rattle.irc_channels.specs.Channels.{is_invited}
use Rattle.irc_relay.specs.Links.{Name, Link, part, joined, links_without, distance}
use Rattle.irc_room.specs.Laws.{no_room}
use Rattle.irc_room.specs.Room.{Room}
use Rattle.irc_room.specs.effect.Effect.{Effect}
use Rattle.irc_modes.specs.Modes.{no_modes}
use Rattle.irc_room.specs.Examples.{room_after, somebody}
use Rattle.irc_room.specs.Invitations.{is_at, inviting_only, of_home}
use Rattle.irc_room.specs.Readers.{is_invited_at}
use Rattle.irc_room.specs.Lemmas.Listed.{table_of, row_listed, entries_listed}
use Rattle.irc_room.specs.Lemmas.ListedRooms.{ListedRoom, ListedChannel, channel_of, room_of}
use Rattle.irc_room.specs.Lemmas.ListedRooms.{no_list, all_listed}
use Rattle.irc_room.specs.Lemmas.ListedSeen.{user_listed, channel_listed}
use Rattle.irc_room.specs.Lemmas.ExampleRooms.{list_room}
use Rattle.irc_routes.specs.About.{About}
use Rattle.irc_routes.specs.Place.{KnownServer}
use Rattle.irc_merge.specs.Bursts.{burst, in_lines}
use Rattle.irc_merge.specs.Lemmas.ListedMerge.{AreInOrder, CanBeListed, list_without, burst_listed}
use Rattle.irc_merge.specs.Lemmas.TableWords.{row-kept}
use Rattle.irc_stage.specs.declared.clients.Client.{Client}
use Rattle.irc_stage.specs.declared.clients.Client.TheVariants.{Registered}
use Rattle.irc_stage.specs.Handle.{says as speaks, user_of}
use Rattle.irc_line.specs.Reading.{read_of}
use Rattle.irc_acts.specs.Acts.{effects_among}
use Rattle.irc_commands.specs.Decisions.{Decided}
use Rattle.irc_routes.specs.Place.{Place}
use Rattle.irc_world.specs.World.{servers_where, known_from, home_of, machine_at}
use Rattle.irc_world.specs.Stepping.{link, step, split_text, servers_on_side, leaving_lines}
use Rattle.irc_world.specs.Refused.{refused}
use Rattle.irc_world.specs.Bounds.{effects_at, effects_said, effects_of_user, effects_left, most}
use Rattle.irc_world.specs.Networks.{three_peers, hall_after, als_doings, bos_doings, zeds_clients}
use Rattle.irc_world.specs.Networks.{zeds_doings, other_zeds_clients, other_zeds_doings}
use Rattle.irc_world.specs.Networks.{three_people, three_clients, in_a_line, cut_off, a_to_b}
use Rattle.irc_world.specs.Networks.{b_to_c, two_apart}
use Rattle.irc_world.specs.SmallWorlds.{LinesAtMost, four_peers, links_of_pairs, cys_doings}
use Rattle.irc_world.specs.SmallWorlds.{zeds_topic, bos_z, bos_client, KillsComeFirst}
use Rattle.irc_world.specs.SmallWorlds.{PasswordsDiffer, told_apart, line_of_links, Whereabouts}
use Rattle.irc_world.specs.SmallWorlds.{of_first, of_second, of_third}
use Rattle.irc_world.specs.SmallWorlds.{two_clients, two_doings, other_two_clients}
use Rattle.irc_world.specs.SmallWorlds.{other_two_doings, ErrorComesLast, als_channel, bos_voice}
use Rattle.irc_world.specs.SmallWorlds.{OperatorBeforeVoice, four_doings, four_clients, four_lose}
use Rattle.irc_world.specs.SmallWorlds.{four_lose_back, LostInOrder, inviting, InvitedAtHome}
use Rattle.irc_world.proofs.ListedHalls.{list_lost, InOrderLeaving, list_seen_leaving}
use Rattle.irc_world.proofs.ListedHalls.{leaving_listed, servers_listed, list_meeting}
use Rattle.irc_world.proofs.NetworksProved.{met, als_in_order, bos_in_order, zeds_in_order}
use Rattle.irc_world.proofs.NetworksProved.{other_zeds_in_order, als_hall, others_hall, als_side}
use Rattle.irc_world.proofs.NetworksProved.{others_side, als_side_in_order, others_side_in_order}
use Rattle.irc_world.proofs.BoSpeaks.{message, is_read, bo_there, decides, spoken}
use Rattle.irc_world.specs.Lemmas.MergedClients.{get-kept}

abbrev a_net : Name
a_net = codes "a.net"

abbrev b_net : Name
b_net = codes "b.net"

abbrev c_net : Name
c_net = codes "c.net"

-- ---- how many lines

-- how many lines a burst has, of a room that some effects have made
burst_length : (server : Name) (effects : List Effect) → AreInOrder (list_room effects)
    → (n : ℕ) → length (burst server (room_of (list_room effects))) ≡ n
    → length (burst server (room_after effects)) ≡ n
burst_length server effects order n is =
    ap (λ room. length (burst server room)) (all_listed no_list effects) ∙ is

nobody_in_order : AreInOrder no_list
nobody_in_order = record { users = tt; channels = tt; members = tt }

nothing_told : (server : Name) → length (burst server no_room) ≡ 0
unfolding in_lines
nothing_told server = ap (λ room. length (burst server room)) (all_listed no_list [])
    ∙ ap length (burst_listed server no_list nobody_in_order)

a_alone : length (servers_where three_peers (joined [] a_net)) ≡ 1
unfolding part
a_alone = ap length (servers_listed three_peers (joined [] a_net) tt)

b_alone : length (servers_where three_peers (joined [] b_net)) ≡ 1
unfolding part
b_alone = ap length (servers_listed three_peers (joined [] b_net) tt)

all_three : length (servers_where three_peers (joined (b_to_c ∷ a_to_b ∷ []) b_net)) ≡ 3
unfolding part
all_three = ap length (servers_listed three_peers (joined (b_to_c ∷ a_to_b ∷ []) b_net) tt)

a_left : length (servers_where three_peers (joined (b_to_c ∷ []) a_net)) ≡ 1
unfolding part
a_left = ap length (servers_listed three_peers (joined (b_to_c ∷ []) a_net) tt)

b_left : length (servers_where three_peers (joined (b_to_c ∷ []) b_net)) ≡ 2
unfolding part
b_left = ap length (servers_listed three_peers (joined (b_to_c ∷ []) b_net) tt)

a_and_b : length (servers_where four_peers (joined links_of_pairs b_net)) ≡ 2
unfolding part
a_and_b = ap length (servers_listed four_peers (joined links_of_pairs b_net) tt)

c_and_d : length (servers_where four_peers (joined links_of_pairs c_net)) ≡ 2
unfolding part
c_and_d = ap length (servers_listed four_peers (joined links_of_pairs c_net) tt)

als_told : (server : Name) → length (burst server (room_after als_doings)) ≡ 3
unfolding fold fold_table in_lines
als_told server = burst_length server als_doings als_in_order 3
    (ap length (burst_listed server (list_room als_doings) als_in_order))

cys_in_order : AreInOrder (list_room cys_doings)
unfolding fold fold_table
cys_in_order = record { users = tt; channels = tt; members = tt }

cys_told : length (burst c_net (room_after cys_doings)) ≡ 1
unfolding fold fold_table in_lines
cys_told = burst_length c_net cys_doings cys_in_order 1
    (ap length (burst_listed c_net (list_room cys_doings) cys_in_order))

bos_told : length (burst b_net (room_after bos_doings)) ≡ 3
unfolding fold fold_table in_lines
bos_told = burst_length b_net bos_doings bos_in_order 3
    (ap length (burst_listed b_net (list_room bos_doings) bos_in_order))

zeds_told : length (burst a_net (room_after zeds_doings)) ≡ 4
unfolding fold fold_table in_lines
zeds_told = burst_length a_net zeds_doings zeds_in_order 4
    (ap length (burst_listed a_net (list_room zeds_doings) zeds_in_order))

other_zeds_told : length (burst b_net (room_after other_zeds_doings)) ≡ 3
unfolding fold fold_table in_lines
other_zeds_told = burst_length b_net other_zeds_doings other_zeds_in_order 3
    (ap length (burst_listed b_net (list_room other_zeds_doings) other_zeds_in_order))

als_side_told : length (burst a_net (cut_off.state.hall a_net).room) ≡ 4
unfolding fold fold_table in_lines
als_side_told = (λ i. length (burst a_net (als_hall i).room))
    ∙ ap length (burst_listed a_net als_side als_side_in_order)

others_side_told : length (burst b_net (cut_off.state.hall b_net).room) ≡ 5
unfolding fold fold_table in_lines
others_side_told = (λ i. length (burst b_net (others_hall i).room))
    ∙ ap length (burst_listed b_net others_side others_side_in_order)

-- for a link of two sides with these many servers and lines of a burst
abbrev for_link : ℕ → ℕ → ℕ → ℕ → ℕ
for_link near far told answered =
    2 + ((1 + ((near - 1) + told)) * (far + 1) + (1 + ((far - 1) + answered)) * (near + 1))

effects_are : (place : Place) → effects_at (record {
  place = place;
  clients = three_people.clients;
  room = three_people.room;
}) (speaks 2 (read_of (codes "PRIVMSG #c :hi")))
    ≡ spoken ∷ []
effects_are place =
    ap (λ read. effects_at (record {
      place = place;
      clients = three_people.clients;
      room = three_people.room;
    }) (speaks 2 read)) is_read
    ∙ ap (effects_said (record {
      place = place;
      clients = three_people.clients;
      room = three_people.room;
    }) message)
    (get-from_entries nat_cmp_total three_clients 2)
    ∙ ap (effects_of_user (record {
      place = place;
      clients = three_people.clients;
      room = three_people.room;
    }) message) bo_there
    ∙ ap (λ (d : Decided). effects_among d.steps) (decides place)

bo_leaves : user_of three_people.room (get three_people.clients 2) ≡ Some (codes "bo")
bo_leaves =
    ap (user_of three_people.room) (get-from_entries nat_cmp_total three_clients 2)
    ∙ ap (option_map (λ (user : User). user.nick)) bo_there

pub lines_at_most : LinesAtMost
unfolding most part step links_without
lines_at_most = record {
  first_link = λ i. for_link (a_alone i) (b_alone i) (nothing_told a_net i) (nothing_told b_net i);
  people = λ i. for_link (a_alone i) (b_alone i) (als_told a_net i) (bos_told i);
  clash = λ i. for_link (a_alone i) (b_alone i) (zeds_told i) (other_zeds_told i);
  spoken = λ i. length (effects_are (machine_at three_peers (in_a_line three_people) b_net).place i)
      * (all_three i - 1);
  left = λ i. length (effects_left (bo_leaves i)) * (all_three i - 1);
  lost = λ i. b_left i * (a_left i - 1) + a_left i * (b_left i - 1);
  back = λ i. for_link (a_left i) (b_left i) (als_side_told i) (others_side_told i);
  pairs = λ i. for_link (a_and_b i) (c_and_d i) (als_told b_net i) (cys_told i);
  pairs_lost = λ i. c_and_d i * (a_and_b i - 1) + a_and_b i * (c_and_d i - 1);
  connected = refl;
}

-- ---- kills come first

abbrev titled : ListedRoom
titled = list_room zeds_topic

abbrev other_zeds : ListedRoom
other_zeds = list_room other_zeds_doings

abbrev bos : ListedRoom
bos = list_room bos_z

titled_in_order : AreInOrder titled
unfolding fold fold_table
titled_in_order = record { users = tt; channels = tt; members = (tt, (tt, tt)) }

bos_z_in_order : AreInOrder bos
unfolding fold fold_table
bos_z_in_order = record { users = tt; channels = tt; members = (tt, tt) }

titled_left : AreInOrder (list_without titled other_zeds)
unfolding fold fold_table
titled_left = record { users = tt; channels = tt; members = (tt, tt) }

others_left : AreInOrder (list_without other_zeds titled)
unfolding fold fold_table
others_left = record { users = tt; channels = tt; members = (tt, tt) }

killed_here : CanBeListed titled other_zeds
unfolding fold fold_table
killed_here = record {
  first = titled_in_order;
  second = other_zeds_in_order;
  along = (titled_in_order, tt);
  left = others_left;
}

killed_there : CanBeListed other_zeds titled
unfolding fold fold_table
killed_there = record {
  first = other_zeds_in_order;
  second = titled_in_order;
  along = (other_zeds_in_order, tt);
  left = titled_left;
}

alive_here : CanBeListed titled bos
unfolding fold fold_table
alive_here =
    record { first = titled_in_order; second = bos_z_in_order; along = tt; left = bos_z_in_order }

alive_there : CanBeListed bos titled
unfolding fold fold_table
alive_there =
    record { first = bos_z_in_order; second = titled_in_order; along = tt; left = titled_in_order }

pub kills_come_first : KillsComeFirst
unfolding step part fold fold_table cut_line line_text in_lines
kills_come_first = record {
  killed =
      met zeds_clients other_zeds_clients zeds_topic other_zeds_doings 3 killed_here killed_there;
  killed_back =
      met other_zeds_clients zeds_clients other_zeds_doings zeds_topic 3 killed_there killed_here;
  not_killed = met zeds_clients bos_client zeds_topic bos_z 3 alive_here alive_there;
  not_killed_back = met bos_client zeds_clients bos_z zeds_topic 3 alive_there alive_here;
}

pub passwords_differ : PasswordsDiffer
unfolding refused part
passwords_differ = record { from_a = refl; from_b = refl }

-- ---- what each server knows

abbrev known_entry : (Name → Option KnownServer) → Name → Option (List ℕ × KnownServer)
known_entry known server = option_map (λ (k : KnownServer). (server, k)) (known server)

unknown_there : (known : Name → Option KnownServer) (q : Name) (servers : List Name)
    → known q ≡ None → find fold_cmp q (filter_map (known_entry known) servers) ≡ None
unknown_there known q [] none = refl
unknown_there known q (server ∷ servers) none =
    by_known (known server) refl (unknown_there known q servers none)
  where
    rest : List (List ℕ × KnownServer)
    rest = filter_map (known_entry known) servers

    by_fold : (k : KnownServer) (b : Bool) → same_fold q server ≡ b → known server ≡ Some k
        → find fold_cmp q rest ≡ None → cond b (Some k) (find fold_cmp q rest) ≡ None
    by_fold k true one is later =
        absurd (let clash = sym none ∙ ap known (one_fold q server one) ∙ is in cc clash)
    by_fold k false two is later = later

    by_known : (o : Option KnownServer) → known server ≡ o → find fold_cmp q rest ≡ None → find
        fold_cmp q (cons_option (option_map (λ (k : KnownServer). (server, k)) o) rest) ≡ None
    by_known None is later = later
    by_known (Some k) is later = by_fold k (same_fold q server) refl is later

known_row : (known : Name → Option KnownServer) (servers : List Name) (q : Name)
    → row (tabulate servers known) q ≡ find fold_cmp q (filter_map (known_entry known) servers)
known_row known [] q = get-empty fold_cmp q
known_row known (server ∷ servers) q =
    row-put (tabulate servers known) server (known server) q
    ∙ ap (cond (same_fold q server) (known server)) (known_row known servers q)
    ∙ by_known (known server) refl
  where
    rest : List (List ℕ × KnownServer)
    rest = filter_map (known_entry known) servers

    by_fold : (b : Bool) → same_fold q server ≡ b → known server ≡ None
        → cond b None (find fold_cmp q rest) ≡ find fold_cmp q rest
    by_fold true one is =
        sym (unknown_there known q servers (ap known (one_fold q server one) ∙ is))
    by_fold false two is = refl

    by_known : (o : Option KnownServer) → known server ≡ o
        → cond (same_fold q server) o (find fold_cmp q rest) ≡ find fold_cmp q
        (cons_option (option_map (λ (k : KnownServer). (server, k)) o) rest)
    by_known None is = by_fold (same_fold q server) refl is
    by_known (Some k) is = refl

second_entries : (es : List (List ℕ × KnownServer))
    → map (λ (e : List ℕ × KnownServer). e.1) (map (λ e. (e.0, e.1)) es) ≡ map (λ e. e.1) es
second_entries [] = refl
second_entries (e ∷ es) = ap (λ ks. e.1 ∷ ks) (second_entries es)

known_listed : (known : Name → Option KnownServer) (servers : List Name)
    → T (is_sorted fold_cmp (map (λ e. (e.0, e.1)) (filter_map (known_entry known) servers)))
    → values (tabulate servers known) ≡ map (λ e. e.1) (filter_map (known_entry known) servers)
known_listed known servers rise =
    ap (λ (table : Table KnownServer). values table)
    (same_table (tabulate servers known)
    (table_of (λ k. k) (filter_map (known_entry known) servers)) (λ q.
    known_row known servers q
    ∙ sym (row_listed (λ k. k) (filter_map (known_entry known) servers) q
    ∙ option_map_id (find fold_cmp q (filter_map (known_entry known) servers)))))
    ∙ ap (map (λ (e : List ℕ × KnownServer). e.1))
    (entries_listed (λ k. k) (filter_map (known_entry known) servers) rise)
    ∙ second_entries (filter_map (known_entry known) servers)

abbrev names : List Name
names = a_net ∷ b_net ∷ c_net ∷ []

abbrev place_with : Name → About → ℕ → List KnownServer → Place
place_with name about links servers =
    record { name = name; about = about; links = links; servers = servers }

pub whereabouts : Whereabouts
unfolding part distance links_without
whereabouts = record {
  at_a = ap (place_with a_net of_first 1)
      (known_listed (known_from told_apart line_of_links a_net) names tt);
  at_b = ap (place_with b_net of_second 2)
      (known_listed (known_from told_apart line_of_links b_net) names tt);
  at_c = ap (place_with c_net of_third 1)
      (known_listed (known_from told_apart line_of_links c_net) names tt);
  a_is_cut = ap (place_with a_net of_first 0)
      (known_listed (known_from told_apart (b_to_c ∷ []) a_net) names tt);
  b_is_cut = ap (place_with b_net of_second 1)
      (known_listed (known_from told_apart (b_to_c ∷ []) b_net) names tt);
}

-- ---- in which order

two_in_order : AreInOrder (list_room two_doings)
unfolding fold fold_table
two_in_order = record { users = tt; channels = tt; members = (tt, tt) }

other_two_in_order : AreInOrder (list_room other_two_doings)
unfolding fold fold_table
other_two_in_order = record { users = tt; channels = tt; members = tt }

two_listed : CanBeListed (list_room two_doings) (list_room other_two_doings)
unfolding fold fold_table
two_listed = record {
  first = two_in_order;
  second = other_two_in_order;
  along = (two_in_order, (record { users = tt; channels = tt; members = (tt, tt) }, tt));
  left = record { users = tt; channels = tt; members = tt };
}

other_two_listed : CanBeListed (list_room other_two_doings) (list_room two_doings)
unfolding fold fold_table
other_two_listed = record {
  first = other_two_in_order;
  second = two_in_order;
  along = (other_two_in_order, (record { users = tt; channels = tt; members = tt }, tt));
  left = record { users = tt; channels = tt; members = tt };
}

two_meet : (client : ℕ) → (step three_peers (two_apart (hall_after two_clients two_doings)
    (hall_after other_two_clients other_two_doings))
    (link (codes "a.net") (codes "b.net"))).out client
    ≡ list_meeting (list_room two_doings) (list_room other_two_doings)
    (find nat_cmp client two_clients)
    ++ list_meeting (list_room other_two_doings) (list_room two_doings)
    (find nat_cmp client other_two_clients)
unfolding step part
two_meet client =
    met two_clients other_two_clients two_doings other_two_doings client two_listed other_two_listed

pub error_comes_last : ErrorComesLast
unfolding fold fold_table cut_line line_text
error_comes_last = record { to_abe = two_meet 1; to_zed = two_meet 2 }

voice_listed : CanBeListed (list_room als_channel) (list_room bos_voice)
unfolding fold fold_table
voice_listed = record {
  first = record { users = tt; channels = tt; members = (tt, tt) };
  second = record { users = tt; channels = tt; members = (tt, tt) };
  along = tt;
  left = record { users = tt; channels = tt; members = (tt, tt) };
}

voice_listed_back : CanBeListed (list_room bos_voice) (list_room als_channel)
unfolding fold fold_table
voice_listed_back = record {
  first = record { users = tt; channels = tt; members = (tt, tt) };
  second = record { users = tt; channels = tt; members = (tt, tt) };
  along = tt;
  left = record { users = tt; channels = tt; members = (tt, tt) };
}

pub operator_before_voice : OperatorBeforeVoice
unfolding step part fold fold_table cut_line line_text in_lines
operator_before_voice = met ((1, Registered (codes "al")) ∷ [])
    ((3, Registered (codes "bo")) ∷ []) als_channel bos_voice 1 voice_listed voice_listed_back

abbrev four : ListedRoom
four = list_room four_doings

abbrev rest : List Link
rest = b_to_c ∷ []

four_in_order : AreInOrder four
unfolding fold fold_table
four_in_order = record { users = tt; channels = tt; members = (tt, tt) }

behind_b : servers_on_side three_peers rest b_net ≡ b_net ∷ c_net ∷ []
unfolding part
behind_b = servers_listed three_peers (joined rest b_net) tt

behind_a : servers_on_side three_peers rest a_net ≡ a_net ∷ []
unfolding part
behind_a = servers_listed three_peers (joined rest a_net) tt

four_leaving : InOrderLeaving (split_text a_net b_net) four (list_lost (b_net ∷ c_net ∷ []) four)
unfolding fold fold_table
four_leaving = (
  four_in_order,
  (
    record { users = tt; channels = tt; members = (tt, tt) },
    (record { users = tt; channels = tt; members = (tt, tt) }, tt),
  ),
)

al_leaving : InOrderLeaving (split_text b_net a_net) four (list_lost (a_net ∷ []) four)
unfolding fold fold_table
al_leaving = (four_in_order, tt)

abbrev left_on : Name → ℕ → Option Client
left_on one client =
    cond (option_map_or (joined rest one) (home_of (in_a_line (hall_after four_clients four_doings))
    client) false) (find nat_cmp client four_clients) None

client_left : (one : Name) (client : ℕ) → get
    (retain_keys (from_entries {R = nat_cmp} four_clients) (λ c. option_map_or (joined rest one)
    (home_of (in_a_line (hall_after four_clients four_doings)) c) false)) client
    ≡ left_on one client
client_left one client =
    get-kept (from_entries four_clients) (λ c. option_map_or (joined rest one)
    (home_of (in_a_line (hall_after four_clients four_doings)) c) false) client
    ∙ ap (λ o. cond (option_map_or (joined rest one)
    (home_of (in_a_line (hall_after four_clients four_doings)) client) false) o None)
    (get-from_entries nat_cmp_total four_clients client)

a_sees : (client : ℕ) → leaving_lines three_peers rest a_net b_net (room_after four_doings)
    (get (retain_keys (from_entries {R = nat_cmp} four_clients) (λ c. option_map_or (joined rest
    a_net) (home_of (in_a_line (hall_after four_clients four_doings)) c) false)) client)
    ≡ list_seen_leaving (split_text a_net b_net) (b_net ∷ c_net ∷ []) four (left_on a_net client)
a_sees client =
    (λ i. leaving_lines three_peers rest a_net b_net (all_listed no_list four_doings i)
    (client_left a_net client i))
    ∙ leaving_listed three_peers rest a_net b_net four four_in_order
    (b_net ∷ c_net ∷ []) behind_b four_leaving (left_on a_net client)

b_sees : (client : ℕ) → leaving_lines three_peers rest b_net a_net (room_after four_doings)
    (get (retain_keys (from_entries {R = nat_cmp} four_clients) (λ c. option_map_or (joined rest
    b_net) (home_of (in_a_line (hall_after four_clients four_doings)) c) false)) client)
    ≡ list_seen_leaving (split_text b_net a_net) (a_net ∷ []) four (left_on b_net client)
b_sees client =
    (λ i. leaving_lines three_peers rest b_net a_net (all_listed no_list four_doings i)
    (client_left b_net client i))
    ∙ leaving_listed three_peers rest b_net a_net four four_in_order
    (a_net ∷ []) behind_a al_leaving (left_on b_net client)

lost_lines : (client : ℕ) → four_lose.out client
    ≡ list_seen_leaving (split_text a_net b_net) (b_net ∷ c_net ∷ []) four (left_on a_net client)
    ++ list_seen_leaving (split_text b_net a_net) (a_net ∷ []) four (left_on b_net client)
unfolding step part links_without
lost_lines client = λ i. a_sees client i ++ b_sees client i

lost_lines_back : (client : ℕ) → four_lose_back.out client
    ≡ list_seen_leaving (split_text b_net a_net) (a_net ∷ []) four (left_on b_net client)
    ++ list_seen_leaving (split_text a_net b_net) (b_net ∷ c_net ∷ []) four (left_on a_net client)
unfolding step part links_without
lost_lines_back client = λ i. b_sees client i ++ a_sees client i

pub lost_in_order : LostInOrder
unfolding part fold fold_table cut_line line_text
lost_in_order = record {
  to_al = lost_lines 1;
  to_bo = lost_lines 2;
  back_to_al = lost_lines_back 1;
  back_to_bo = lost_lines_back 2;
}

-- ---- what a server has of its part

home_row : (home : Name) (room : Room) (q : List ℕ)
    → row (of_home home room).channels q ≡ option_and_then
    (λ channel. Some (inviting_only (is_at home room.users) channel)) (row room.channels q)
unfolding of_home
home_row home room q =
    row-each (λ channel. Some (inviting_only (is_at home room.users) channel)) room.channels q

abbrev invited_room : ListedRoom
invited_room = list_room inviting

-- somebody is invited at a server where it is connected to that one, and invited
asked_at : (home : Name) (room : Room) (nick fold : List ℕ) (user : User) (channel : Channel)
    → row room.users nick ≡ Some user → row room.channels fold ≡ Some channel
    → is_invited_at (of_home home room) nick fold ≡ is_some
    (cond (is_home home user) (row channel.invited nick) None)
asked_at home room nick fold user channel user_is channel_is =
    ap (λ o. option_map_or (is_invited nick) o false) (home_row home room fold)
    ∙ ap (λ o. option_map_or (is_invited nick) (option_and_then
    (λ c. Some (inviting_only (is_at home room.users) c)) o) false) channel_is
    ∙ ap is_some (row-kept channel.invited (is_at home room.users) nick)
    ∙ ap (λ o. is_some
    (cond (option_map_or (is_home home) o false) (row channel.invited nick) None)) user_is

abbrev dd : User
dd = somebody (codes "dd") (codes "h") (codes "c.net")

abbrev the_channel : ListedChannel
the_channel = record {
  name = codes "#i";
  modes = no_modes;
  topic = [];
  members = (codes "al", record { op = true; voice = false }) ∷ [];
  invited = (codes "dd", tt {0}) ∷ [];
}

dd_is_invited : (home : Name) → is_invited_at (of_home home (room_after inviting))
    (key (codes "dd")) (key (codes "#i")) ≡ is_some (cond (is_home home dd) (Some (tt {0})) None)
unfolding fold fold_table
dd_is_invited home =
    (λ i. is_invited_at (of_home home (all_listed no_list inviting i)) (key (codes "dd"))
    (key (codes "#i")))
    ∙ asked_at home (room_of invited_room) (key (codes "dd")) (key (codes "#i")) dd
    (channel_of the_channel)
    (user_listed invited_room (key (codes "dd"))) (channel_listed invited_room (key (codes "#i")))
    ∙ ap (λ o. is_some (cond (is_home home dd) o None))
    (row_listed (λ u. u) the_channel.invited (key (codes "dd")))

pub invited_at_home : InvitedAtHome
unfolding part
invited_at_home =
    record { at_a = dd_is_invited a_net; at_b = dd_is_invited b_net; at_c = dd_is_invited c_net }
