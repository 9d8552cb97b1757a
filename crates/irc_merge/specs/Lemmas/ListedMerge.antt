-- Rooms that are made of lists: what is told of them, who clashes, and what a merge leaves and
-- shows; all of it computes.
use Rattle.std.specs.Prelude.{T}
use Rattle.std.proofs.Common.{◌≡◌, ℕ, not, ◌&&◌, ◌||◌, Option, Some, None, List, [], ◌∷◌, ◌++◌}
use Rattle.std.proofs.Common.{refl, ◌∙◌, ap, map, fold, filter, filter_map, is_some, option_map}
use Rattle.std.proofs.Common.{option_to_list, codes, if◌then◌else◌}
use Rattle.std.specs.List.{list_any, flat_map, cons_option, AllByRecursion}
use Rattle.std.specs.Option.{option_map_or, option_and_then}
use Rattle.std.specs.FinMap.{values}
use Rattle.std.specs.FinMap.Entries.{find, is_sorted}
use Rattle.std.proofs.lemmas.Iterator.Adapters.{option_map_id}
use Rattle.irc_names.specs.Fold.{key, same}
use Rattle.irc_names.specs.Greater.{bytes_cmp, greater}
use Rattle.irc_names.specs.Tables.{fold_cmp, row}
use Rattle.irc_users.specs.declared.user.User.{User}
use Rattle.irc_users.specs.ChangesTold.{as_introduced}
use Rattle.irc_channels.specs.declared.flags.Flags.{Flags}
use Rattle.irc_channels.specs.declared.channel.Channel.{Channel}
use Rattle.irc_channels.specs.Channels.{has_member}
use Rattle.irc_room.specs.effect.Effect.{Effect}
use Rattle.irc_room.specs.effect.Effect.TheVariants.{AddUser, Quit}
use Rattle.irc_room.specs.Room.{Room}
use Rattle.irc_room.specs.After.{after}
use Rattle.irc_room.specs.InTurn.{after_all}
use Rattle.irc_room.specs.Seen.{full_sender, line_from}
use Rattle.irc_room.specs.Lemmas.Listed.{table_of, row_listed, entries_listed}
use Rattle.irc_room.specs.Lemmas.ListedRooms.{ListedChannel, ListedRoom, channel_of, room_of}
use Rattle.irc_room.specs.Lemmas.ListedRooms.{lists_member, member_listed, list_after, after_listed}
use Rattle.irc_room.specs.Lemmas.ListedRooms.{all_listed}
use Rattle.irc_room.specs.Lemmas.ListedSeen.{user_listed, channel_listed}
use Rattle.irc_room.specs.Viewers.{shows_to}
use Rattle.irc_merge.specs.ShownAlong.{shown_along}
use Rattle.irc_merge.specs.Quits.{quits_of, collision_text}
use Rattle.irc_merge.specs.Deeds.{Deed, does, brings, sets}
use Rattle.irc_modes.specs.ModesSet.{set_changes, ban_changes}
use Rattle.irc_merge.specs.Bursts.{in_lines, members_a_line, bans_a_line, burst, stored_member}
use Rattle.irc_merge.specs.Bursts.{settings_line, topic_line, own_deeds, channel_deeds}
use Rattle.irc_merge.specs.Merge.{clash, room_without, either, joined_channel, merge}
use Rattle.irc_merge.specs.MergeShown.{arrival, member_arrival, mode_lines, raised_lines}
use Rattle.irc_merge.specs.MergeShown.{raised_topic, channel_seen, channel_arrivals, arrivals}
use Rattle.irc_merge.specs.MergeShown.{merge_shown}
use Rattle.irc_merge.specs.Lemmas.Joining.{row-either, row-joined}
use Rattle.irc_merge.specs.Lemmas.ShownUsers.{quit_shows}

-- the members of a channel in order, and the lists of a room, each in order
abbrev HasOrder : ListedChannel → Type 0
HasOrder c = T (is_sorted fold_cmp (map (λ e. (e.0, e.1)) c.members))

pub record AreInOrder (room : ListedRoom) : Type 0 where
  pub users : T (is_sorted fold_cmp (map (λ e. (e.0, e.1)) room.users))
  pub channels : T (is_sorted fold_cmp (map (λ e. (e.0, channel_of e.1)) room.channels))
  pub members : AllByRecursion (λ e. HasOrder e.1) room.channels

values_itself : {X : Type 0} (es : List (List ℕ × X))
    → map (λ (e : List ℕ × X). e.1) (map (λ e. (e.0, e.1)) es) ≡ map (λ e. e.1) es
values_itself [] = refl
values_itself (e ∷ es) = ap (λ xs. e.1 ∷ xs) (values_itself es)

pub users_listed : (room : ListedRoom) → AreInOrder room
    → values (room_of room).users ≡ map (λ e. e.1) room.users
users_listed room order = ap (map (λ (e : List ℕ × User). e.1))
    (entries_listed (λ u. u) room.users order.users) ∙ values_itself room.users

-- ---- a burst

abbrev list_stored : List (List ℕ × User) → List (List ℕ × Flags) → List (List ℕ × Flags)
list_stored users members = filter_map
    (λ m. option_map (λ (user : User). (user.nick, m.1)) (find fold_cmp m.0 users)) members

abbrev list_deeds : List ℕ → List (List ℕ × User) → ListedChannel → List Deed
list_deeds server users c =
    map (brings server c.name) (in_lines members_a_line (list_stored users c.members))
    ++ (settings_line server c.name (set_changes c.modes)
    ++ (map (sets server c.name) (in_lines bans_a_line (ban_changes c.modes.bans))
    ++ topic_line server c.name c.topic))

abbrev pub list_burst : List ℕ → ListedRoom → List Deed
list_burst server room =
    (map (λ user. does (AddUser (as_introduced user))) (map (λ e. e.1) room.users)
    ++ flat_map own_deeds (map (λ e. e.1) room.users))
    ++ flat_map (λ e. list_deeds server room.users e.1) room.channels

stored_listed : (room : ListedRoom) (es : List (List ℕ × Flags)) → filter_map
    (stored_member (room_of room).users) (map (λ e. (e.0, e.1)) es) ≡ list_stored room.users es
stored_listed room [] = refl
stored_listed room (e ∷ es) = λ i. cons_option (option_map (λ (user : User). (user.nick, e.1))
    (user_listed room e.0 i)) (stored_listed room es i)

deeds_listed : (server : List ℕ) (room : ListedRoom) (es : List (List ℕ × ListedChannel))
    → AllByRecursion (λ e. HasOrder e.1) es → flat_map (channel_deeds server (room_of room).users)
    (map (λ (e : List ℕ × Channel). e.1) (map (λ e. (e.0, channel_of e.1)) es))
    ≡ flat_map (λ e. list_deeds server room.users e.1) es
deeds_listed server room [] order = refl
deeds_listed server room (e ∷ es) order =
    λ i. (map (brings server e.1.name) (in_lines members_a_line ((ap (filter_map
    (stored_member (room_of room).users)) (entries_listed (λ f. f) e.1.members order.0)
    ∙ stored_listed room e.1.members) i))
    ++ (settings_line server e.1.name (set_changes e.1.modes)
    ++ (map (sets server e.1.name) (in_lines bans_a_line (ban_changes e.1.modes.bans))
    ++ topic_line server e.1.name e.1.topic)))
    ++ deeds_listed server room es order.1 i

pub burst_listed : (server : List ℕ) (room : ListedRoom) → AreInOrder room
    → burst server (room_of room) ≡ list_burst server room
unfolding burst
burst_listed server room order =
    λ i. (map (λ user. does (AddUser (as_introduced user))) (users_listed room order i)
    ++ flat_map own_deeds (users_listed room order i))
    ++ (ap (λ es. flat_map (channel_deeds server (room_of room).users) (map (λ (e : List ℕ
    × Channel). e.1) es)) (entries_listed channel_of room.channels order.channels)
    ∙ deeds_listed server room room.channels order.members) i

-- ---- who clashes, and who is left

abbrev list_clash : ListedRoom → ListedRoom → List User
list_clash room other = filter (λ (user : User).
    is_some (find fold_cmp (key user.nick) other.users)) (map (λ e. e.1) room.users)

clash_listed : (room other : ListedRoom) → AreInOrder room
    → clash (room_of room) (room_of other) ≡ list_clash room other
clash_listed room other order = λ i. filter
    (λ (user : User). is_some (user_listed other (key user.nick) i)) (users_listed room order i)

abbrev pub list_without : ListedRoom → ListedRoom → ListedRoom
list_without room other = fold list_after room (quits_of collision_text (list_clash room other))

pub in_turn : (room : Room) (effects : List Effect)
    → after_all room effects ≡ fold after room effects
in_turn room [] = refl
in_turn room (effect ∷ effects) = in_turn (after room effect) effects

without_listed : (room other : ListedRoom) → AreInOrder room
    → room_without (room_of room) (room_of other) ≡ room_of (list_without room other)
unfolding room_without
without_listed room other order =
    ap (λ us. after_all (room_of room) (quits_of collision_text us)) (clash_listed room other order)
    ∙ in_turn (room_of room) (quits_of collision_text (list_clash room other))
    ∙ all_listed room (quits_of collision_text (list_clash room other))

-- ---- what a merge leaves

pub user_merged : (one other : ListedRoom) → AreInOrder one → AreInOrder other → (q : List ℕ)
    → row (merge (room_of one) (room_of other)).users q ≡ either (find fold_cmp q
    (list_without one other).users) (find fold_cmp q (list_without other one).users)
unfolding merge
user_merged one other order_one order_other q =
    row-either (room_without (room_of one) (room_of other)).users
    (room_without (room_of other) (room_of one)).users q
    ∙ (λ i. either ((ap (λ (r : Room). row r.users q) (without_listed one other order_one)
    ∙ user_listed (list_without one other) q) i)
    ((ap (λ (r : Room). row r.users q) (without_listed other one order_other)
    ∙ user_listed (list_without other one) q) i))

abbrev pub flags_in : List ℕ → Option ListedChannel → Option Flags
flags_in nick x = option_and_then (λ (c : ListedChannel). find fold_cmp nick c.members) x

pub joined_flags : (nick : List ℕ) (x y : Option ListedChannel) → option_and_then (λ (c : Channel).
    row c.members nick) (joined_channel (option_map channel_of x) (option_map channel_of y))
    ≡ either (flags_in nick x) (flags_in nick y)
joined_flags nick None None = refl
joined_flags nick None (Some d) =
    row_listed (λ f. f) d.members nick ∙ option_map_id (find fold_cmp nick d.members)
joined_flags nick (Some c) None = row_listed (λ f. f) c.members nick
    ∙ option_map_id (find fold_cmp nick c.members) ∙ alone (find fold_cmp nick c.members)
  where
    alone : (o : Option Flags) → o ≡ either o None
    alone None = refl
    alone (Some flags) = refl
joined_flags nick (Some c) (Some d) =
    row-either (table_of (λ f. f) c.members) (table_of (λ f. f) d.members) nick
    ∙ (λ i. either
    ((row_listed (λ f. f) c.members nick ∙ option_map_id (find fold_cmp nick c.members)) i)
    ((row_listed (λ f. f) d.members nick ∙ option_map_id (find fold_cmp nick d.members)) i))

pub channel_merged : (one other : ListedRoom) → AreInOrder one → AreInOrder other
    → (channel : List ℕ) → row (merge (room_of one) (room_of other)).channels channel
    ≡ joined_channel
    (option_map channel_of (find fold_cmp channel (list_without one other).channels))
    (option_map channel_of (find fold_cmp channel (list_without other one).channels))
unfolding merge
channel_merged one other order_one order_other channel =
    row-joined (room_without (room_of one) (room_of other)).channels
    (room_without (room_of other) (room_of one)).channels channel
    ∙ (λ i. joined_channel ((ap (λ (r : Room). row r.channels channel) (without_listed one other
    order_one) ∙ channel_listed (list_without one other) channel) i)
    ((ap (λ (r : Room). row r.channels channel) (without_listed other one order_other)
    ∙ channel_listed (list_without other one) channel) i))

-- ---- what a merge shows

abbrev list_quit : List ℕ → ListedRoom → List ℕ → List ℕ → Option (List ℕ)
list_quit viewer room nick text =
    option_and_then (λ (user : User).
    if not (same nick user.nick) && list_any (λ c. lists_member (key nick) c
    && lists_member (key user.nick) c) (map (λ e. e.1) room.channels)
    then line_from (codes "QUIT") [] (Some text)
    (option_map full_sender (find fold_cmp (key nick) room.users)) else None)
    (find fold_cmp (key viewer) room.users)

shares : (one other : List ℕ) (es : List (List ℕ × ListedChannel))
    → list_any (λ c. has_member one c && has_member other c)
    (map (λ (e : List ℕ × Channel). e.1) (map (λ e. (e.0, channel_of e.1)) es))
    ≡ list_any (λ c. lists_member one c && lists_member other c) (map (λ e. e.1) es)
shares one other [] = refl
shares one other (e ∷ es) =
    λ i. (member_listed one e.1 i && member_listed other e.1 i) || shares one other es i

share_listed : (room : ListedRoom) → AreInOrder room → (one other : List ℕ)
    → list_any (λ c. has_member one c && has_member other c) (values (room_of room).channels)
    ≡ list_any (λ c. lists_member one c && lists_member other c) (map (λ e. e.1) room.channels)
share_listed room order one other =
    ap (λ (es : List (List ℕ × Channel)). list_any (λ c. has_member one c && has_member other c)
    (map (λ e. e.1) es)) (entries_listed channel_of room.channels order.channels)
    ∙ shares one other room.channels

quit_listed : (viewer : List ℕ) (room : ListedRoom) → AreInOrder room → (nick text : List ℕ)
    → shows_to (room_of room) (Quit nick text) viewer ≡ list_quit viewer room nick text
quit_listed viewer room order nick text =
    quit_shows (room_of room) nick text viewer
    ∙ (λ i. option_and_then (λ (user : User).
    if not (same nick user.nick) && share_listed room order (key nick) (key user.nick) i
    then line_from (codes "QUIT") [] (Some text) (option_map full_sender
    (user_listed room (key nick) i)) else None) (user_listed room (key viewer) i))

abbrev list_quits : List ℕ → ListedRoom → List User → List (List ℕ)
list_quits viewer room [] = []
list_quits viewer room (user ∷ users) =
    option_to_list (list_quit viewer room user.nick collision_text)
    ++ list_quits viewer (list_after room (Quit user.nick collision_text)) users

-- the lists are in order each time that one quits
abbrev pub InOrderAlong : ListedRoom → List User → Type 0
InOrderAlong room [] = Unit {0}
InOrderAlong room (user ∷ users) =
    AreInOrder room × InOrderAlong (list_after room (Quit user.nick collision_text)) users

quits_listed : (viewer : List ℕ) (room : ListedRoom) (users : List User)
    → InOrderAlong room users → shown_along viewer (room_of room) (quits_of collision_text users)
    ≡ list_quits viewer room users
quits_listed viewer room [] order = refl
quits_listed viewer room (user ∷ users) order =
    λ i. option_to_list (quit_listed viewer room order.0 user.nick collision_text i)
    ++ (ap (λ r. shown_along viewer r (quits_of collision_text users))
    (after_listed room (Quit user.nick collision_text))
    ∙ quits_listed viewer (list_after room (Quit user.nick collision_text)) users order.1) i

abbrev list_comes : List (List ℕ × User) → User → List ℕ → List (List ℕ × Flags) → List (List ℕ)
list_comes users viewer title members =
    flat_map (λ m. option_map_or (arrival viewer title m.1) (find fold_cmp m.0 users) []) members

abbrev list_seen : List (List ℕ × User) → User → List ℕ → ListedChannel → ListedChannel
    → List (List ℕ)
list_seen users viewer name theirs ours =
    list_comes users viewer name theirs.members
    ++ (raised_lines viewer name (mode_lines theirs.modes) ours.modes
    ++ raised_topic viewer name ours.topic theirs.topic)

abbrev list_channel : List (List ℕ × User) → User → ListedChannel → ListedChannel → List (List ℕ)
list_channel users viewer theirs ours =
    if lists_member (key viewer.nick) ours
    then list_seen users viewer (greater bytes_cmp ours.name theirs.name) theirs ours else []

abbrev list_arrivals : ListedRoom → ListedRoom → User → List (List ℕ)
list_arrivals room other viewer =
    flat_map (λ e. option_map_or (list_channel other.users viewer e.1)
    (find fold_cmp (key e.1.name) room.channels) []) other.channels

comes_listed : (other : ListedRoom) (viewer : User) (title : List ℕ) (es : List (List ℕ × Flags))
    → flat_map (member_arrival (room_of other).users viewer title) (map (λ e. (e.0, e.1)) es)
    ≡ list_comes other.users viewer title es
comes_listed other viewer title [] = refl
comes_listed other viewer title (e ∷ es) = λ i. option_map_or (arrival viewer title e.1)
    (user_listed other e.0 i) [] ++ comes_listed other viewer title es i

seen_listed : (other : ListedRoom) (viewer : User) (name : List ℕ) (theirs ours : ListedChannel)
    → HasOrder theirs → channel_seen (room_of other) viewer name (channel_of theirs)
    (channel_of ours) ≡ list_seen other.users viewer name theirs ours
seen_listed other viewer name theirs ours order =
    ap (λ lines. lines ++ (raised_lines viewer name (mode_lines theirs.modes) ours.modes
    ++ raised_topic viewer name ours.topic theirs.topic))
    (ap (flat_map (member_arrival (room_of other).users viewer name))
    (entries_listed (λ f. f) theirs.members order)
    ∙ comes_listed other viewer name theirs.members)

channel_comes : (other : ListedRoom) (viewer : User) (theirs : ListedChannel)
    → HasOrder theirs → (o : Option ListedChannel)
    → option_map_or (channel_arrivals (room_of other) viewer (channel_of theirs))
    (option_map channel_of o) [] ≡ option_map_or (list_channel other.users viewer theirs) o []
channel_comes other viewer theirs order None = refl
channel_comes other viewer theirs order (Some ours) =
    λ i. if member_listed (key viewer.nick) ours i
    then seen_listed other viewer (greater bytes_cmp ours.name theirs.name) theirs ours order i
    else []

arrivals_in_turn : (room other : ListedRoom) (viewer : User) (es : List (List ℕ × ListedChannel))
    → AllByRecursion (λ e. HasOrder e.1) es
    → flat_map (λ (theirs : Channel). option_map_or (channel_arrivals (room_of other) viewer theirs)
    (row (room_of room).channels (key theirs.name)) [])
    (map (λ (e : List ℕ × Channel). e.1) (map (λ e. (e.0, channel_of e.1)) es))
    ≡ flat_map (λ e. option_map_or (list_channel other.users viewer e.1)
    (find fold_cmp (key e.1.name) room.channels) []) es
arrivals_in_turn room other viewer [] order = refl
arrivals_in_turn room other viewer (e ∷ es) order =
    λ i. (ap (λ o. option_map_or (channel_arrivals (room_of other) viewer (channel_of e.1)) o [])
    (channel_listed room (key e.1.name))
    ∙ channel_comes other viewer e.1 order.0 (find fold_cmp (key e.1.name) room.channels)) i
    ++ arrivals_in_turn room other viewer es order.1 i

arrivals_listed : (room other : ListedRoom) → AreInOrder other → (viewer : User)
    → arrivals (room_of room) (room_of other) viewer ≡ list_arrivals room other viewer
arrivals_listed room other order viewer =
    ap (λ (es : List (List ℕ × Channel)). flat_map
    (λ (theirs : Channel). option_map_or (channel_arrivals (room_of other) viewer theirs)
    (row (room_of room).channels (key theirs.name)) []) (map (λ e. e.1) es))
    (entries_listed channel_of other.channels order.channels)
    ∙ arrivals_in_turn room other viewer other.channels order.members

abbrev pub list_merge_shown : ListedRoom → ListedRoom → List ℕ → List (List ℕ)
list_merge_shown room other viewer =
    list_quits viewer room (list_clash room other)
    ++ option_map_or (list_arrivals (list_without room other) (list_without other room))
    (find fold_cmp (key viewer) (list_without room other).users) []

pub record CanBeListed (room other : ListedRoom) : Type 0 where
  pub first : AreInOrder room
  pub second : AreInOrder other
  pub along : InOrderAlong room (list_clash room other)
  pub left : AreInOrder (list_without other room)

pub merge_listed : (room other : ListedRoom) (viewer : List ℕ) → CanBeListed room other
    → merge_shown (room_of room) (room_of other) viewer ≡ list_merge_shown room other viewer
unfolding merge_shown
merge_listed room other viewer order =
    λ i. (ap (λ us. shown_along viewer (room_of room) (quits_of collision_text us))
    (clash_listed room other order.first)
    ∙ quits_listed viewer room (list_clash room other) order.along) i
    ++ ((λ j. option_map_or (arrivals (without_listed room other order.first j)
    (without_listed other room order.second j))
    (row (without_listed room other order.first j).users (key viewer)) [])
    ∙ (λ j. option_map_or (λ user. arrivals_listed (list_without room other)
    (list_without other room) order.left user j)
    (user_listed (list_without room other) (key viewer) j) [])) i
