-- Halls whose rooms are made of lists: what their clients receive when they become one, and when
-- one is parted; all of it computes.
use Rattle.std.proofs.Common.{◌≡◌, ℕ, Bool, true, false, cond, not, ◌&&◌, ◌||◌, T, Option, Some}
use Rattle.std.proofs.Common.{None, List, [], ◌∷◌, ◌++◌, refl, sym, ◌∙◌, ap, map, fold, filter}
use Rattle.std.proofs.Common.{is_some, option_map, codes, if◌then◌else◌}
use Rattle.std.specs.Prelude.{option_to_list}
use Rattle.std.specs.List.{list_any, flat_map}
use Rattle.std.specs.Option.{option_and_then}
use Rattle.std.specs.FinMap.{values, keys, get-empty}
use Rattle.std.specs.FinMap.Entries.{find, is_sorted}
use Rattle.std.proofs.lemmas.Iterator.Adapters.{option_map_id}
use Rattle.irc_names.specs.Fold.{key, same}
use Rattle.irc_names.specs.Tables.{Table, fold_cmp, row, tabulate}
use Rattle.irc_names.specs.TableLaws.{same_fold, one_fold, same_table, row-put}
use Rattle.irc_users.specs.declared.user.User.{User}
use Rattle.irc_users.specs.UserTable.{is_home}
use Rattle.irc_channels.specs.declared.channel.Channel.{Channel}
use Rattle.irc_channels.specs.Channels.{has_member}
use Rattle.irc_room.specs.effect.Effect.{Effect}
use Rattle.irc_room.specs.effect.Effect.TheVariants.{Quit}
use Rattle.irc_room.specs.Room.{Room}
use Rattle.irc_room.specs.After.{after}
use Rattle.irc_room.specs.InTurn.{after_all}
use Rattle.irc_room.specs.Seen.{share_channel, full_sender, line_from}
use Rattle.irc_room.specs.Viewers.{shows_to}
use Rattle.irc_room.specs.Lemmas.Listed.{table_of, row_listed, entries_listed}
use Rattle.irc_room.specs.Lemmas.ListedRooms.{ListedChannel, ListedRoom, channel_of, room_of}
use Rattle.irc_room.specs.Lemmas.ListedRooms.{lists_member, member_listed, list_after, after_listed}
use Rattle.irc_room.specs.Lemmas.ListedRooms.{all_listed}
use Rattle.irc_room.specs.Lemmas.ListedSeen.{user_listed}
use Rattle.irc_relay.specs.Links.{Name, Link}
use Rattle.irc_merge.specs.Merge.{room_without}
use Rattle.irc_merge.specs.Quits.{quits_of, collision_text}
use Rattle.irc_merge.specs.ShownAlong.{shown_along}
use Rattle.irc_merge.specs.Split.{lost_users, split}
use Rattle.irc_merge.specs.Lemmas.ListedMerge.{AreInOrder, list_without, list_merge_shown}
use Rattle.irc_merge.specs.Lemmas.ListedMerge.{CanBeListed, merge_listed}
use Rattle.irc_stage.specs.declared.clients.Client.{Client}
use Rattle.irc_stage.specs.declared.clients.Client.TheVariants.{Registering, Registered}
use Rattle.irc_stage.specs.RoomMachine.{Clients}
use Rattle.irc_world.specs.World.{Setting, Hall, servers_where}
use Rattle.irc_world.specs.Stepping.{clashes_in, meeting_lines, split_text, servers_on_side}
use Rattle.irc_world.specs.Stepping.{leaving_lines}
use Rattle.irc_commands.specs.Closing.{error_line}

abbrev pub hall_of : Clients → ListedRoom → Hall
hall_of clients room = record { clients = clients; room = room_of room }

values_itself : {X : Type 0} (es : List (List ℕ × X))
    → map (λ (e : List ℕ × X). e.1) (map (λ e. (e.0, e.1)) es) ≡ map (λ e. e.1) es
values_itself [] = refl
values_itself (e ∷ es) = ap (λ xs. e.1 ∷ xs) (values_itself es)

pub users_listed : (room : ListedRoom) → AreInOrder room
    → values (room_of room).users ≡ map (λ e. e.1) room.users
users_listed room order = ap (map (λ (e : List ℕ × User). e.1))
    (entries_listed (λ u. u) room.users order.users) ∙ values_itself room.users

pub in_turn : (room : Room) (effects : List Effect)
    → after_all room effects ≡ fold after room effects
in_turn room [] = refl
in_turn room (effect ∷ effects) = in_turn (after room effect) effects

-- the room after some effects, one after another
pub after_all_listed : (room : ListedRoom) (effects : List Effect)
    → after_all (room_of room) effects ≡ room_of (fold list_after room effects)
after_all_listed room effects = in_turn (room_of room) effects ∙ all_listed room effects

-- ---- two halls become one

without_listed : (room other : ListedRoom) → AreInOrder room
    → room_without (room_of room) (room_of other) ≡ room_of (list_without room other)
unfolding room_without
without_listed room other order =
    (λ i. after_all (room_of room) (quits_of collision_text
    (filter (λ (user : User). is_some (user_listed other (key user.nick) i))
    (users_listed room order i))))
    ∙ after_all_listed room (quits_of collision_text (filter (λ (user : User).
    is_some (find fold_cmp (key user.nick) other.users)) (map (λ e. e.1) room.users)))

-- what a client receives
abbrev pub list_meeting : ListedRoom → ListedRoom → Option Client → List (List ℕ)
list_meeting own other None = []
list_meeting own other (Some (Registering pending)) = []
list_meeting own other (Some (Registered nick)) =
    list_merge_shown own other nick ++ (if is_some (find fold_cmp (key nick) other.users)
    then error_line collision_text ∷ [] else [])

pub meeting_listed : (clients others : Clients) (own other : ListedRoom)
    → CanBeListed own other → (o : Option Client)
    → meeting_lines (hall_of clients own) (hall_of others other) o ≡ list_meeting own other o
meeting_listed clients others own other order None = refl
meeting_listed clients others own other order (Some (Registering pending)) = refl
meeting_listed clients others own other order (Some (Registered nick)) =
    λ i. merge_listed own other nick order i
    ++ (if is_some (user_listed other (key nick) i) then error_line collision_text ∷ [] else [])

-- whether a client is killed
abbrev pub list_clashes : ListedRoom → Option Client → Bool
list_clashes other None = false
list_clashes other (Some (Registering pending)) = false
list_clashes other (Some (Registered nick)) = is_some (find fold_cmp (key nick) other.users)

pub clashes_listed : (other : ListedRoom) (o : Option Client)
    → clashes_in (room_of other) o ≡ list_clashes other o
clashes_listed other None = refl
clashes_listed other (Some (Registering pending)) = refl
clashes_listed other (Some (Registered nick)) = ap is_some (user_listed other (key nick))

-- ---- a hall is parted

abbrev pub list_lost : List (List ℕ) → ListedRoom → List User
list_lost homes room = flat_map (λ home. filter (is_home home) (map (λ e. e.1) room.users)) homes

lost_listed : (homes : List (List ℕ)) (room : ListedRoom) → AreInOrder room
    → lost_users homes (room_of room) ≡ list_lost homes room
lost_listed homes room order =
    λ i. flat_map (λ home. filter (is_home home) (users_listed room order i)) homes

abbrev pub list_split : List ℕ → List (List ℕ) → ListedRoom → ListedRoom
list_split text homes room = fold list_after room (quits_of text (list_lost homes room))

pub split_listed : (text : List ℕ) (homes : List (List ℕ)) (room : ListedRoom) → AreInOrder room
    → split text homes (room_of room) ≡ room_of (list_split text homes room)
unfolding split
split_listed text homes room order =
    ap (λ users. after_all (room_of room) (quits_of text users)) (lost_listed homes room order)
    ∙ after_all_listed room (quits_of text (list_lost homes room))

-- what a user sees of somebody who quits
abbrev list_quit : List ℕ → ListedRoom → List ℕ → List ℕ → Option (List ℕ)
list_quit viewer room nick text =
    option_and_then (λ (user : User).
    if not (same nick user.nick) && list_any (λ c. lists_member (key nick) c
    && lists_member (key user.nick) c) (map (λ e. e.1) room.channels)
    then line_from (codes "QUIT") [] (Some text)
    (option_map full_sender (find fold_cmp (key nick) room.users)) else None)
    (find fold_cmp (key viewer) room.users)

shares : (one other : List ℕ) (es : List (List ℕ × ListedChannel))
    → list_any (λ c. has_member one c && has_member other c)
    (map (λ (e : List ℕ × Channel). e.1) (map (λ e. (e.0, channel_of e.1)) es))
    ≡ list_any (λ c. lists_member one c && lists_member other c) (map (λ e. e.1) es)
shares one other [] = refl
shares one other (e ∷ es) =
    λ i. (member_listed one e.1 i && member_listed other e.1 i) || shares one other es i

share_listed : (room : ListedRoom) → AreInOrder room → (one other : List ℕ)
    → share_channel (room_of room) one other
    ≡ list_any (λ c. lists_member (key one) c && lists_member (key other) c)
    (map (λ e. e.1) room.channels)
share_listed room order one other =
    ap (λ (es : List (List ℕ × Channel)). list_any
    (λ c. has_member (key one) c && has_member (key other) c) (map (λ e. e.1) es))
    (entries_listed channel_of room.channels order.channels)
    ∙ shares (key one) (key other) room.channels

quit_listed : (viewer : List ℕ) (room : ListedRoom) → AreInOrder room → (nick text : List ℕ)
    → shows_to (room_of room) (Quit nick text) viewer ≡ list_quit viewer room nick text
unfolding shows_to
quit_listed viewer room order nick text = λ i.
    option_and_then (λ (user : User).
    if not (same nick user.nick) && share_listed room order nick user.nick i
    then line_from (codes "QUIT") [] (Some text) (option_map full_sender
    (user_listed room (key nick) i)) else None) (user_listed room (key viewer) i)

abbrev list_leaving : List ℕ → List ℕ → ListedRoom → List User → List (List ℕ)
list_leaving viewer text room [] = []
list_leaving viewer text room (user ∷ users) =
    option_to_list (list_quit viewer room user.nick text)
    ++ list_leaving viewer text (list_after room (Quit user.nick text)) users

-- the lists are in order each time that one quits
abbrev pub InOrderLeaving : List ℕ → ListedRoom → List User → Type 0
InOrderLeaving text room [] = Unit {0}
InOrderLeaving text room (user ∷ users) =
    AreInOrder room × InOrderLeaving text (list_after room (Quit user.nick text)) users

leaving_along : (viewer text : List ℕ) (room : ListedRoom) (users : List User)
    → InOrderLeaving text room users
    → shown_along viewer (room_of room) (quits_of text users) ≡ list_leaving viewer text room users
leaving_along viewer text room [] order = refl
leaving_along viewer text room (user ∷ users) order =
    λ i. option_to_list (quit_listed viewer room order.0 user.nick text i)
    ++ (ap (λ r. shown_along viewer r (quits_of text users))
    (after_listed room (Quit user.nick text))
    ∙ leaving_along viewer text (list_after room (Quit user.nick text)) users order.1) i

abbrev pub list_seen_leaving : List ℕ → List (List ℕ) → ListedRoom → Option Client → List (List ℕ)
list_seen_leaving text homes room None = []
list_seen_leaving text homes room (Some (Registering pending)) = []
list_seen_leaving text homes room (Some (Registered nick)) =
    list_leaving nick text room (list_lost homes room)

pub leaving_listed : (settings : List Setting) (left : List Link) (near far : Name)
    (room : ListedRoom) → AreInOrder room → (homes : List (List ℕ))
    → servers_on_side settings left far ≡ homes → InOrderLeaving (split_text near far) room
    (list_lost homes room) → (o : Option Client) → leaving_lines settings left near far
    (room_of room) o ≡ list_seen_leaving (split_text near far) homes room o
leaving_listed settings left near far room order homes are leaving None = refl
leaving_listed settings left near far room order homes are leaving (Some (Registering pending)) =
    refl
leaving_listed settings left near far room order homes are leaving (Some (Registered nick)) =
    (λ i. shown_along nick (room_of room)
    (quits_of (split_text near far) (lost_users (are i) (room_of room))))
    ∙ ap (λ users. shown_along nick (room_of room) (quits_of (split_text near far) users))
    (lost_listed homes room order)
    ∙ leaving_along nick (split_text near far) room (list_lost homes room) leaving

-- ---- the servers of a side

abbrev server_entry : Name → List ℕ × Unit {0}
server_entry server = (server, tt {0})

abbrev if_on : (Name → Bool) → Name → Option (Unit {0})
if_on test server = if test server then Some (tt {0}) else None

only_passing : (test : Name → Bool) (q : Name) (servers : List Name) → test q ≡ false
    → find fold_cmp q (map server_entry (filter test servers)) ≡ None
only_passing test q [] fails = refl
only_passing test q (server ∷ servers) fails =
    by_test (test server) refl (only_passing test q servers fails)
  where
    by_fold : (b : Bool) → same_fold q server ≡ b → test server ≡ true
        → find fold_cmp q (map server_entry (filter test servers)) ≡ None
        → cond b (Some (tt {0})) (find fold_cmp q (map server_entry (filter test servers))) ≡ None
    by_fold true one passes rest =
        absurd (let clash = sym fails ∙ ap test (one_fold q server one) ∙ passes in cc clash)
    by_fold false two passes rest = rest

    by_test : (b : Bool) → test server ≡ b
        → find fold_cmp q (map server_entry (filter test servers)) ≡ None → find fold_cmp q
        (map server_entry (cond b (server ∷ filter test servers) (filter test servers))) ≡ None
    by_test true passes rest = by_fold (same_fold q server) refl passes rest
    by_test false fails rest = rest

side_row : (test : Name → Bool) (servers : List Name) (q : Name) → row
    (tabulate servers (if_on test)) q ≡ find fold_cmp q (map server_entry (filter test servers))
side_row test [] q = get-empty fold_cmp q
side_row test (server ∷ servers) q =
    row-put (tabulate servers (if_on test)) server (if_on test server) q
    ∙ ap (cond (same_fold q server) (if_on test server)) (side_row test servers q)
    ∙ by_test (test server) refl
  where
    by_fold : (b : Bool) → same_fold q server ≡ b → test server ≡ false
        → cond b None (find fold_cmp q (map server_entry (filter test servers)))
        ≡ find fold_cmp q (map server_entry (filter test servers))
    by_fold true one fails =
        sym (only_passing test q servers (ap test (one_fold q server one) ∙ fails))
    by_fold false two fails = refl

    by_test : (b : Bool) → test server ≡ b → cond (same_fold q server) (if b then Some (tt {0})
        else None) (find fold_cmp q (map server_entry (filter test servers)))
        ≡ find fold_cmp q
        (map server_entry (cond b (server ∷ filter test servers) (filter test servers)))
    by_test true passes = refl
    by_test false fails = by_fold (same_fold q server) refl fails

first_entries : (servers : List Name) → map (λ (e : List ℕ × Unit {0}). e.0)
    (map (λ e. (e.0, e.1)) (map server_entry servers)) ≡ servers
first_entries [] = refl
first_entries (server ∷ servers) = ap (λ ss. server ∷ ss) (first_entries servers)

-- those that pass, where all stand in order
pub servers_listed : (settings : List Setting) (test : Name → Bool)
    → T (is_sorted fold_cmp (map (λ e. (e.0, e.1))
    (map server_entry (filter test (map (λ (s : Setting). s.name) settings)))))
    → servers_where settings test ≡ filter test (map (λ (s : Setting). s.name) settings)
servers_listed settings test rise =
    let servers = filter test (map (λ (s : Setting). s.name) settings) in
    ap (λ (table : Table (Unit {0})). keys table)
    (same_table (tabulate (map (λ (s : Setting). s.name) settings) (if_on test))
    (table_of (λ u. u) (map server_entry servers))
    (λ q. side_row test (map (λ (s : Setting). s.name) settings) q
    ∙ sym (row_listed (λ u. u) (map server_entry servers) q
    ∙ option_map_id (find fold_cmp q (map server_entry servers)))))
    ∙ ap (map (λ (e : List ℕ × Unit {0}). e.0))
    (entries_listed (λ u. u) (map server_entry servers) rise)
    ∙ first_entries servers
