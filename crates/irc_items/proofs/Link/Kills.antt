-- Whom a burst kills, and what its lines show: a client whose nickname the other side has too is
-- killed by the line that tells of that nickname, is told so, and sees nothing more. Any other
-- client stays, and sees all that is shown.
use Rattle.std.proofs.Common.{◌≡◌, ℕ, Bool, true, false, cond, not, Option, Some, None, is_some}
use Rattle.std.proofs.Common.{List, [], ◌∷◌, ◌++◌, option_to_list, refl, sym, ◌∙◌, ap, subst}
use Rattle.std.proofs.Common.{append-nil, append_assoc, if◌then◌else◌}
use Rattle.std.proofs.lemmas.Bool.{and_parts}
use Rattle.std.specs.FinMap.{get, entries, entries_sorted, values, find, is_sorted, get-entries}
use Rattle.std.specs.FinMap.Entries.{below_all}
use Rattle.std.specs.List.{flat_map, AllByRecursion}
use Rattle.std.specs.Option.{option_and_then, option_map, option_map_or}
use Rattle.irc_names.specs.Lemmas.PlainFacts.{is_some-map, is_true}
use Rattle.irc_channels.specs.declared.flags.Flags.{Flags}
use Rattle.irc_merge.specs.BurstRead.{introduced, new_members, brought, some_far, read_deed}
use Rattle.irc_merge.specs.BurstRead.{read_all}
use Rattle.irc_merge.specs.Bursts.{burst, user_deeds, change_deeds, channel_deeds}
use Rattle.irc_merge.specs.Lemmas.BareUsers.{bare, bare_deeds, bare_find, bare_named}
use Rattle.irc_merge.specs.Lemmas.BareUsers.{bare_sorted}
use Rattle.irc_merge.specs.Deeds.{Deed, does, kills, brings, sets, tops, titled, effects_of}
use Rattle.irc_merge.specs.Deeds.{after_deed, after_deeds, shown_by, shown_by_all}
use Rattle.irc_merge.specs.Lemmas.Introducing.{met, met_by, is_met, met_well, introductions}
use Rattle.irc_merge.specs.Lemmas.Introducing.{other_met}
use Rattle.irc_merge.specs.Lemmas.TableWords.{absent}
use Rattle.irc_merge.specs.Quits.{collision_text}
use Rattle.irc_merge.specs.ShownAlong.{shown_along}
use Rattle.irc_names.specs.Fold.{key, same}
use Rattle.irc_names.specs.FoldLaws.{same-tells}
use Rattle.irc_names.specs.Tables.{fold_cmp, row}
use Rattle.irc_names.specs.TableLaws.{same_fold, one_fold, row-alter}
use Rattle.irc_relay.specs.Following.{all_seen}
use Rattle.irc_relay.specs.Links.{Name}
use Rattle.irc_room.specs.After.{after}
use Rattle.irc_room.specs.effect.Effect.{Effect}
use Rattle.irc_room.specs.effect.Effect.TheVariants.{AddUser, Quit, ChangeUser}
use Rattle.irc_room.specs.Effects.{has_user, is_idle}
use Rattle.irc_room.specs.Lemmas.ViewerLaws.{IsNamed, table_named}
use Rattle.irc_room.specs.Room.{Room, IsWellFormed}
use Rattle.irc_room.specs.Viewers.{line_for, shows_to}
use Rattle.irc_stage.specs.declared.clients.Client.{Client}
use Rattle.irc_stage.specs.declared.clients.Waiting.{Waiting}
use Rattle.irc_stage.specs.declared.clients.Client.TheVariants.{Registering, Registered}
use Rattle.irc_stage.specs.EffectTold.{is_another}
use Rattle.irc_stage.specs.Handle.{is_client}
use Rattle.irc_stage.specs.Lemmas.Counting.{get-kept}
use Rattle.irc_stage.specs.RoomMachine.{Clients}
use Rattle.irc_users.specs.declared.user.User.{User}
use Rattle.irc_users.specs.declared.user_change.UserChange.{UserChange}
use Rattle.irc_users.specs.ChangesTold.{as_introduced}
use Rattle.irc_users.specs.UserTable.{with_change}
use Rattle.irc_follow.specs.SideState.{ItemSetting, SideState, client_sees, done, is_home_of}
use Rattle.irc_follow.specs.SideState.{told_end}
use Rattle.irc_follow.specs.Says.{play}
use Rattle.irc_follow.specs.Lemmas.DeedEffects.{AllQuiet, members_quiet, sets_quiet, tops_quiet}
use Rattle.irc_follow.specs.Lemmas.DeedEffects.{users_stay}
use Rattle.irc_follow.specs.Lemmas.EffectsOnSide.{same_folds}
use Rattle.irc_items.proofs.Burst.ChannelLines.{deeds_of_changes, deeds_of_channels}
use Rattle.irc_items.proofs.Burst.ChannelLines.{all_behind, StandsBehind}
use Rattle.irc_items.proofs.Burst.Stated.{both_all}
use Rattle.irc_items.proofs.Link.Gains.{clients_left, clients_spared, hall_left, in_hall}
use Rattle.irc_items.proofs.Link.Gains.{read_deed_done}
use Rattle.irc_items.proofs.Link.Sides.{IsReadDeed}
use Rattle.irc_commands.specs.Closing.{error_line}

-- ---- one client

-- whether a deed kills the user of a nickname
abbrev pub is_killed : Deed → List ℕ → Bool
is_killed (kills server nick) name = same name nick
is_killed deed name = false

-- what a deed leaves of a client, and some deeds, one after another
abbrev pub client_spared : Deed → Option Client → Option Client
client_spared deed None = None
client_spared deed (Some (Registering pending)) = Some (Registering pending)
client_spared deed (Some (Registered name)) =
    if is_killed deed name then None else Some (Registered name)

abbrev pub client_left : List Deed → Option Client → Option Client
client_left [] o = o
client_left (deed ∷ deeds) o = client_left deeds (client_spared deed o)

all_stay : (deed : Deed) → ((name : List ℕ) → is_killed deed name ≡ false) → (o : Option Client)
    → o ≡ client_spared deed o
all_stay deed spares None = refl
all_stay deed spares (Some (Registering pending)) = refl
all_stay deed spares (Some (Registered name)) =
    sym (ap (λ b. if b then None else Some (Registered name)) (spares name))

-- what a client sees of them, as long as it is there
abbrev pub seen_in : Room → List Deed → Option Client → List (List ℕ)
seen_in room [] o = []
seen_in room (deed ∷ deeds) o =
    client_sees deed room o ++ seen_in (after_deed room deed) deeds (client_spared deed o)

-- so it is with each of a hall's clients
spares : (deed : Deed) (clients : Clients) (q : ℕ)
    → get (clients_spared deed clients) q ≡ client_spared deed (get clients q)
spares (kills server nick) clients q =
    get-kept clients (is_another clients nick) q ∙ by (get clients q)
  where
    by_name : (name : List ℕ) (b : Bool)
        → cond (not b) (Some (Registered name)) None ≡ (if b then None else Some (Registered name))
    by_name name true = refl
    by_name name false = refl

    by : (o : Option Client) → cond (option_map_or (λ client. not (is_client nick client)) o true) o
        None ≡ client_spared (kills server nick) o
    by None = refl
    by (Some (Registering pending)) = refl
    by (Some (Registered name)) = by_name name (same name nick)
spares (does effect) clients q = all_stay (does effect) (λ name. refl) (get clients q)
spares deed clients q = all_stay deed (λ nick. refl) (get clients q)

pub left_of : (deeds : List Deed) (clients : Clients) (q : ℕ)
    → get (clients_left deeds clients) q ≡ client_left deeds (get clients q)
left_of [] clients q = refl
left_of (deed ∷ deeds) clients q =
    left_of deeds (clients_spared deed clients) q ∙ ap (client_left deeds) (spares deed clients q)

-- and this is what one sees at its home
pub burst_seen : (s : ItemSetting) (client : ℕ) (own t : Name) → is_home_of s.homes t client ≡ true
    → (deeds : List Deed) (w : SideState) → AllByRecursion (IsReadDeed own) deeds
    → all_seen (play s client) t w deeds ≡ seen_in w.hall.room deeds (get w.hall.clients client)
burst_seen s client own t home [] w read = refl
burst_seen s client own t home (deed ∷ deeds) w read =
    let sees = client_sees deed w.hall.room (get w.hall.clients client) in
    let next = in_hall (hall_left (deed ∷ []) w.hall) w in
    ap (λ b. (if b then sees else []) ++ all_seen (play s client) t (done s w deed) deeds) home
    ∙ ap (λ v. sees ++ all_seen (play s client) t v deeds) (read_deed_done s own deed w read.0)
    ∙ ap (λ lines. sees ++ lines)
    (burst_seen s client own t home deeds next read.1
    ∙ ap (seen_in (after_deed w.hall.room deed) deeds) (spares deed w.hall.clients client))

-- one that is not registered is not killed, and sees nothing
pub none_left : (deeds : List Deed) → client_left deeds None ≡ None
none_left [] = refl
none_left (deed ∷ deeds) = none_left deeds

pub none_sees : (deeds : List Deed) (room : Room) → seen_in room deeds None ≡ []
none_sees [] room = refl
none_sees (deed ∷ deeds) room = none_sees deeds (after_deed room deed)

pub registering_left : (deeds : List Deed) (pending : Waiting)
    → client_left deeds (Some (Registering pending)) ≡ Some (Registering pending)
registering_left [] pending = refl
registering_left (deed ∷ deeds) pending = registering_left deeds pending

pub registering_sees : (deeds : List Deed) (room : Room) (pending : Waiting)
    → seen_in room deeds (Some (Registering pending)) ≡ []
registering_sees [] room pending = refl
registering_sees (deed ∷ deeds) room pending = registering_sees deeds (after_deed room deed) pending

-- the line that one is told last that is killed
abbrev pub end_line : Bool → List (List ℕ)
end_line killed = if killed then error_line collision_text ∷ [] else []

-- a registered client sees all that is shown, and is killed by these deeds, or is not
pub record Fares (killed : Bool) (room : Room) (nick : List ℕ) (deeds : List Deed) : Type 0 where
  pub seen : seen_in room deeds (Some (Registered nick)) ≡ shown_by_all nick room deeds
      ++ end_line killed
  pub left : client_left deeds (Some (Registered nick))
      ≡ (if killed then None else Some (Registered nick))

end_told : (deed : Deed) (nick : List ℕ) → told_end deed nick ≡ end_line (is_killed deed nick)
end_told (kills server other) nick = refl
end_told deed nick = refl

first_seen : (room : Room) (nick : List ℕ) (deed : Deed) (deeds : List Deed) (b : Bool)
    → is_killed deed nick ≡ b → seen_in room (deed ∷ deeds) (Some (Registered nick))
    ≡ (shown_by nick room deed ++ end_line b) ++ seen_in (after_deed room deed) deeds
    (if b then None else Some (Registered nick))
first_seen room nick deed deeds b is = λ i.
    (shown_by nick room deed ++ (end_told deed nick ∙ ap end_line is) i)
    ++ seen_in (after_deed room deed) deeds (if is i then None else Some (Registered nick))

one_spared : (killed : Bool) (room : Room) (nick : List ℕ) (deed : Deed) (deeds : List Deed)
    → is_killed deed nick ≡ false → Fares killed (after_deed room deed) nick deeds
    → Fares killed room nick (deed ∷ deeds)
one_spared killed room nick deed deeds is later = record {
  seen = first_seen room nick deed deeds false is
      ∙ (λ i. append-nil (shown_by nick room deed) i ++ later.seen i)
      ∙ sym (append_assoc (shown_by nick room deed) (shown_by_all nick (after_deed room deed) deeds)
      (end_line killed));
  left = ap (λ b. client_left deeds (if b then None else Some (Registered nick))) is ∙ later.left;
}

one_killed : (room : Room) (nick : List ℕ) (deed : Deed) (deeds : List Deed)
    → is_killed deed nick ≡ true → shown_by_all nick (after_deed room deed) deeds ≡ []
    → Fares true room nick (deed ∷ deeds)
one_killed room nick deed deeds is unseen = record {
  seen = first_seen room nick deed deeds true is
      ∙ ap (λ lines. (shown_by nick room deed ++ end_line true) ++ lines)
      (none_sees deeds (after_deed room deed))
      ∙ append-nil (shown_by nick room deed ++ end_line true)
      ∙ ap (λ lines. lines ++ end_line true) (sym (append-nil (shown_by nick room deed))
      ∙ ap (λ lines. shown_by nick room deed ++ lines) (sym unseen));
  left =
      ap (λ b. client_left deeds (if b then None else Some (Registered nick))) is ∙ none_left deeds;
}

-- ---- who is no user sees nothing

nobody_shown : (room : Room) (effect : Effect) (viewer : List ℕ)
    → row room.users (key viewer) ≡ None → shows_to room effect viewer ≡ None
unfolding shows_to
nobody_shown room effect viewer none =
    ap (λ o. if is_idle room effect then None else option_and_then (line_for room effect) o) none
    ∙ by (is_idle room effect)
  where
    by : (b : Bool) → ◌≡◌ {A = Option (List ℕ)} (if b then None else None) None
    by true = refl
    by false = refl

unseen_along : (viewer : List ℕ) (effects : List Effect) → AllQuiet effects → (room : Room)
    → row room.users (key viewer) ≡ None → shown_along viewer room effects ≡ []
unseen_along viewer [] quiet room none = refl
unseen_along viewer (effect ∷ effects) quiet room none = λ i.
    option_to_list (nobody_shown room effect viewer none i)
    ++ unseen_along viewer effects quiet.1 (after room effect)
    (ap (λ us. row us (key viewer)) (users_stay room (effect ∷ []) (quiet.0, tt)) ∙ none) i

-- ---- lines behind introductions

brought_of_channel : (server channel : List ℕ) (members : List (List ℕ × Flags))
    → AllByRecursion StandsBehind (brought server channel members)
brought_of_channel server channel [] = tt
brought_of_channel server channel (member ∷ members) = (tt, tt)

if_of_channel : (b : Bool) (deed : Deed) → StandsBehind deed
    → AllByRecursion StandsBehind (cond b (deed ∷ []) [])
if_of_channel true deed is = (is, tt)
if_of_channel false deed is = tt

-- what is read of them are such lines
read_of_channel : (own : List ℕ) (far : List ℕ → Bool) (room : Room) (deed : Deed)
    → StandsBehind deed → AllByRecursion StandsBehind (read_deed own far room deed)
read_of_channel own far room (does (ChangeUser nick change)) is =
    if_of_channel (has_user room nick) (does (ChangeUser nick change)) tt
read_of_channel own far room (brings server channel members) is =
    brought_of_channel server channel (new_members far room channel members)
read_of_channel own far room (sets server channel changes) is =
    if_of_channel (some_far far room channel) (sets server channel changes) tt
read_of_channel own far room (tops server channel topic) is =
    if_of_channel (some_far far room channel) (tops server channel topic) tt
read_of_channel own far room deed is = absurd is

all_of_channel : (own : List ℕ) (far : List ℕ → Bool) (deeds : List Deed)
    → AllByRecursion StandsBehind deeds → (room : Room)
    → AllByRecursion StandsBehind (read_all own far room deeds)
all_of_channel own far [] all room = tt
all_of_channel own far (deed ∷ deeds) all room =
    both_all StandsBehind (read_deed own far room deed)
    (read_all own far (after_deeds room (read_deed own far room deed)) deeds)
    (read_of_channel own far room deed all.0)
    (all_of_channel own far deeds all.1 (after_deeds room (read_deed own far room deed)))

-- nobody is killed by one, and no user comes
kills_nobody : (deed : Deed) (nick : List ℕ) → StandsBehind deed → is_killed deed nick ≡ false
kills_nobody (does (ChangeUser who change)) nick is = refl
kills_nobody (brings server channel members) nick is = refl
kills_nobody (sets server channel changes) nick is = refl
kills_nobody (tops server channel topic) nick is = refl
kills_nobody deed nick is = absurd is

all_spared : (deeds : List Deed) → AllByRecursion StandsBehind deeds → (room : Room) (nick : List ℕ)
    → Fares false room nick deeds
all_spared [] all room nick = record { seen = refl; left = refl }
all_spared (deed ∷ deeds) all room nick =
    one_spared false room nick deed deeds (kills_nobody deed nick all.0)
    (all_spared deeds all.1 (after_deed room deed) nick)

-- Whoever is nobody is shown nothing by one, and stays nobody.
record IsUnseen (viewer : List ℕ) (room : Room) (deed : Deed) : Type 0 where
  shows : shown_by viewer room deed ≡ []
  stays : row (after_deed room deed).users (key viewer) ≡ None

quiet_unseen : (viewer : List ℕ) (room : Room) (deed : Deed) → AllQuiet (effects_of room deed)
    → (titled room deed).users ≡ room.users → row room.users (key viewer) ≡ None
    → IsUnseen viewer room deed
unfolding shown_by after_deed
quiet_unseen viewer room deed quiet same none =
    let nobody = ap (λ us. row us (key viewer)) same ∙ none in
    record {
      shows = unseen_along viewer (effects_of room deed) quiet (titled room deed) nobody;
      stays = ap (λ us. row us (key viewer))
          (users_stay (titled room deed) (effects_of room deed) quiet) ∙ nobody;
    }

change_unseen : (viewer : List ℕ) (room : Room) (nick : List ℕ) (change : UserChange)
    → row room.users (key viewer) ≡ None → IsUnseen viewer room (does (ChangeUser nick change))
unfolding shown_by after_deed after
change_unseen viewer room nick change none = record {
  shows =
      ap (λ o. option_to_list o ++ []) (nobody_shown room (ChangeUser nick change) viewer none);
  stays = row-alter (key nick) (option_map (with_change change)) room.users (key viewer)
      ∙ by (same_fold (key viewer) (key nick)) refl;
}
  where
    by : (b : Bool) → same_fold (key viewer) (key nick) ≡ b
        → cond b (option_map (with_change change) (row room.users (key nick)))
        (row room.users (key viewer)) ≡ None
    by true one =
        ap (option_map (with_change change))
        (ap (row room.users) (sym (one_fold (key viewer) (key nick) one)) ∙ none)
    by false two = none

behind_unseen : (viewer : List ℕ) (room : Room) (deed : Deed) → StandsBehind deed
    → row room.users (key viewer) ≡ None → IsUnseen viewer room deed
behind_unseen viewer room (does (ChangeUser nick change)) is none =
    change_unseen viewer room nick change none
behind_unseen viewer room (brings server channel members) is none =
    quiet_unseen viewer room (brings server channel members) (members_quiet channel members) refl
    none
behind_unseen viewer room (sets server channel changes) is none =
    quiet_unseen viewer room (sets server channel changes) (sets_quiet room server channel changes)
    refl none
behind_unseen viewer room (tops server channel topic) is none =
    quiet_unseen viewer room (tops server channel topic) (tops_quiet room server channel topic)
    refl none
behind_unseen viewer room deed is none = absurd is

channels_unseen : (viewer : List ℕ) (deeds : List Deed) → AllByRecursion StandsBehind deeds
    → (room : Room) → row room.users (key viewer) ≡ None → shown_by_all viewer room deeds ≡ []
channels_unseen viewer [] all room none = refl
channels_unseen viewer (deed ∷ deeds) all room none =
    let first = behind_unseen viewer room deed all.0 none in
    λ i. first.shows i ++ channels_unseen viewer deeds all.1 (after_deed room deed) first.stays i

-- ---- one user is introduced

-- what is read of that, by who holds the nickname
abbrev introduction : List ℕ → User → Option User → Deed
introduction own user None = does (AddUser user)
introduction own user (Some holder) = kills own holder.nick

introduced_is : (own : List ℕ) (room : Room) (user : User)
    → introduced own room user ≡ introduction own user (row room.users (key user.nick)) ∷ []
introduced_is own room user = by (row room.users (key user.nick))
  where
    by : (o : Option User) → option_map_or (λ (holder : User). kills own holder.nick ∷ []) o
        (does (AddUser user) ∷ []) ≡ introduction own user o ∷ []
    by None = refl
    by (Some holder) = refl

after_introduction : (own : List ℕ) (room : Room) (user : User)
    → after_deed room (introduction own user (row room.users (key user.nick))) ≡ met room user
after_introduction own room user = ap (after_deeds room) (sym (introduced_is own room user))
    ∙ is_met own room user

read_next : (own : List ℕ) (far : List ℕ → Bool) (room : Room) (user : User) (deeds : List Deed)
    → read_all own far room (does (AddUser user) ∷ deeds)
    ≡ introduction own user (row room.users (key user.nick)) ∷ read_all own far
    (met room user) deeds
read_next own far room user deeds =
    λ i. introduced_is own room user i ++ read_all own far (is_met own room user i) deeds

introduction_unseen : (viewer own : List ℕ) (room : Room) (user : User) (o : Option User)
    → row room.users (key viewer) ≡ None → shown_by viewer room (introduction own user o) ≡ []
unfolding shown_by
introduction_unseen viewer own room user None none =
    ap (λ o. option_to_list o ++ []) (nobody_shown room (AddUser user) viewer none)
introduction_unseen viewer own room user (Some holder) none =
    ap (λ o. option_to_list o ++ [])
    (nobody_shown room (Quit holder.nick collision_text) viewer none)

-- another's nickname is not the viewer's
introduction_spares : (viewer own : List ℕ) (user : User) (fold : List ℕ)
    → same_fold (key viewer) fold ≡ false → (o : Option User) → ((holder : User) → o ≡ Some holder
    → key holder.nick ≡ fold) → is_killed (introduction own user o) viewer ≡ false
introduction_spares viewer own user fold two None named = refl
introduction_spares viewer own user fold two (Some holder) named =
    sym (same_folds viewer holder.nick) ∙ ap (same_fold (key viewer)) (named holder refl) ∙ two

-- whoever quits is no user any more
quit_gone : (room : Room) (nick text viewer : List ℕ) → key viewer ≡ key nick
    → row (after room (Quit nick text)).users (key viewer) ≡ None
unfolding after
quit_gone room nick text viewer one =
    row-alter (key nick) (λ _. None) room.users (key viewer)
    ∙ ap (λ b. cond b None (row room.users (key viewer)))
    (same_folds viewer nick ∙ (same-tells viewer nick).1 one)
    ∙ refl

-- ---- all of them

module _ (viewer own : List ℕ) (far : List ℕ → Bool) (told : List Deed)
    (of_channels : AllByRecursion StandsBehind told) where
  abbrev read_from : Room → List (List ℕ × User) → List Deed
  read_from room es = read_all own far room (introductions es ++ told)

  unseen_from : (es : List (List ℕ × User)) → is_sorted fold_cmp es ≡ true
      → AllByRecursion IsNamed es → (room : Room) → IsWellFormed room
      → find fold_cmp (key viewer) es ≡ None → row room.users (key viewer) ≡ None
      → shown_by_all viewer room (read_from room es) ≡ []
  unseen_from [] rise named room well absent_so none =
      channels_unseen viewer (read_all own far room told)
      (all_of_channel own far told of_channels room) room none
  unseen_from (e ∷ es) rise named room well absent_so none =
      ap (shown_by_all viewer room) (read_next own far room e.1 (introductions es ++ told))
      ∙ ap (λ lines. lines ++ shown_by_all viewer (after_deed room first)
      (read_from (met room e.1) es))
      (introduction_unseen viewer own room e.1 (row room.users (key e.1.nick)) none)
      ∙ ap (λ r. shown_by_all viewer r (read_from (met room e.1) es))
      (after_introduction own room e.1)
      ∙ by (same_fold (key viewer) e.0) refl absent_so
      (unseen_from es (and_parts _ _ rise).1 named.1 (met room e.1) (met_well room e.1 well))
    where
      first : Deed
      first = introduction own e.1 (row room.users (key e.1.nick))

      by : (b : Bool) → same_fold (key viewer) e.0 ≡ b
          → cond b (Some e.1) (find fold_cmp (key viewer) es) ≡ None
          → (find fold_cmp (key viewer) es ≡ None → row (met room e.1).users (key viewer) ≡ None
          → shown_by_all viewer (met room e.1) (read_from (met room e.1) es) ≡ [])
          → shown_by_all viewer (met room e.1) (read_from (met room e.1) es) ≡ []
      by true one is later = absurd (cc is)
      by false two is later = later is (other_met room e.1 e.0 well named.0 (key viewer) two ∙ none)

  -- the viewer itself is introduced on the other side
  killed_now : (room : Room) (e : List ℕ × User) (es : List (List ℕ × User)) (mine : User)
      → IsWellFormed room → row room.users (key viewer) ≡ Some mine → key e.1.nick ≡ key viewer
      → (row (met room e.1).users (key viewer) ≡ None → shown_by_all viewer
      (met room e.1) (read_from (met room e.1) es) ≡ []) → Fares true room viewer
      (introduction own e.1 (row room.users (key e.1.nick)) ∷ read_from (met room e.1) es)
  killed_now room e es mine well at named unseen =
      subst (λ o. Fares true room viewer (introduction own e.1 o ∷ read_from (met room e.1) es))
      (sym holder)
      (one_killed room viewer (kills own mine.nick) (read_from (met room e.1) es)
      ((same-tells viewer mine.nick).1 same_key)
      (ap (λ r. shown_by_all viewer r (read_from (met room e.1) es))
      (sym (ap (λ o. after_deed room (introduction own e.1 o)) holder)
      ∙ after_introduction own room e.1)
      ∙ unseen (ap (λ o. row (met_by room e.1 o).users (key viewer)) holder
      ∙ quit_gone room mine.nick collision_text viewer same_key)))
    where
      holder : row room.users (key e.1.nick) ≡ Some mine
      holder = ap (row room.users) named ∙ at

      same_key : key viewer ≡ key mine.nick
      same_key = sym (well.users_named (key viewer) mine at)

  fares_from : (es : List (List ℕ × User)) → is_sorted fold_cmp es ≡ true
      → AllByRecursion IsNamed es → (room : Room) → IsWellFormed room
      → (mine : User) → row room.users (key viewer) ≡ Some mine
      → Fares (is_some (find fold_cmp (key viewer) es)) room viewer (read_from room es)
  fares_from [] rise named room well mine at = all_spared (read_all own far room told)
      (all_of_channel own far told of_channels room) room viewer
  fares_from (e ∷ es) rise named room well mine at =
      subst (Fares (is_some (find fold_cmp (key viewer) (e ∷ es))) room viewer)
      (sym (read_next own far room e.1 (introductions es ++ told)))
      (by (same_fold (key viewer) e.0) refl (and_parts _ _ rise).0
      (unseen_from es (and_parts _ _ rise).1 named.1 (met room e.1) (met_well room e.1 well))
      (fares_from es (and_parts _ _ rise).1 named.1 (met room e.1) (met_well room e.1 well) mine))
    where
      first : Deed
      first = introduction own e.1 (row room.users (key e.1.nick))

      by : (b : Bool) → same_fold (key viewer) e.0 ≡ b → below_all fold_cmp e.0 es ≡ true
          → (find fold_cmp (key viewer) es ≡ None → row (met room e.1).users (key viewer) ≡ None
          → shown_by_all viewer (met room e.1) (read_from (met room e.1) es) ≡ [])
          → (row (met room e.1).users (key viewer) ≡ Some mine → Fares (is_some
          (find fold_cmp (key viewer) es)) (met room e.1) viewer (read_from (met room e.1) es))
          → Fares (is_some (cond b (Some e.1) (find fold_cmp (key viewer) es))) room viewer
          (first ∷ read_from (met room e.1) es)
      by true one below unseen later =
          killed_now room e es mine well at (named.0 ∙ sym (one_fold (key viewer) e.0 one))
          (unseen (ap (λ f. find fold_cmp f es) (one_fold (key viewer) e.0 one)
          ∙ absent e.0 es below))
      by false two below unseen later =
          one_spared (is_some (find fold_cmp (key viewer) es)) room viewer first
          (read_from (met room e.1) es)
          (introduction_spares viewer own e.1 e.0 two (row room.users (key e.1.nick))
          (λ holder is. well.users_named (key e.1.nick) holder is ∙ named.0))
          (subst (λ r. Fares (is_some (find fold_cmp (key viewer) es)) r viewer
          (read_from (met room e.1) es)) (sym (after_introduction own room e.1))
          (later (other_met room e.1 e.0 well named.0 (key viewer) two ∙ at)))

-- A user of this side is killed just where the other side has its nickname too.
pub burst_fares : (own server : List ℕ) (far : List ℕ → Bool) (room other : Room)
    → IsWellFormed room → IsWellFormed other → (viewer : List ℕ) (mine : User) → row room.users
    (key viewer) ≡ Some mine → Fares (is_some (row other.users (key viewer))) room viewer
    (read_all own far room (burst server other))
unfolding burst
burst_fares own server far room other well well_other viewer mine at =
    subst (λ deeds. Fares (is_some (row other.users (key viewer))) room viewer
    (read_all own far room deeds))
    (sym (append_assoc (user_deeds other) (change_deeds other) channels
    ∙ ap (λ deeds. deeds ++ behind) (bare_deeds es)))
    (subst (λ found. Fares found room viewer
    (read_all own far room (introductions (bare es) ++ behind)))
    (sym (ap is_some (get-entries other.users (key viewer))
    ∙ sym (ap is_some (bare_find (key viewer) es)
    ∙ is_some-map as_introduced (find fold_cmp (key viewer) es))))
    (fares_from viewer own far behind
    (both_all StandsBehind (change_deeds other) channels (deeds_of_changes (values other.users))
    (all_behind channels (deeds_of_channels server other.users (values other.channels))))
    (bare es) (bare_sorted es ∙ is_true _ (entries_sorted other.users))
    (bare_named es (table_named other.users well_other.users_named)) room well mine at))
  where
    es : List (List ℕ × User)
    es = entries other.users

    channels : List Deed
    channels = flat_map (channel_deeds server other.users) (values other.channels)

    behind : List Deed
    behind = change_deeds other ++ channels
