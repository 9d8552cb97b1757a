-- Clients and users stay matched in every hall.
use Rattle.std.proofs.Common.{◌≡◌, ℕ, zero, suc, Bool, true, false, cond, not, Option, Some, None}
use Rattle.std.proofs.Common.{List, [], ◌∷◌, ◌++◌, ◌⊎◌, ⊎_elim, inl, inr, length, refl, sym, ◌∙◌}
use Rattle.std.proofs.Common.{ap, is_some}
use Rattle.std.specs.Option.{option_map_or, option_and_then}
use Rattle.std.specs.Ordering.{nat_cmp}
use Rattle.std.specs.FinMap.{get, empty, get-empty, retain_keys}
use Rattle.std.proofs.lemmas.Option.{same_Some}
use Rattle.irc_names.specs.Fold.{key}
use Rattle.irc_names.specs.Tables.{row, fold_cmp}
use Rattle.irc_line.specs.Reading.{read_of}
use Rattle.irc_users.specs.declared.user.User.{User}
use Rattle.irc_relay.specs.Links.{Name, Link, part, joined, links_without, AreLinked, IsLeft}
use Rattle.irc_relay.specs.Laws.{TestsTell, LinkTakenOut, JoinedOverLink}
use Rattle.irc_room.specs.Room.{Room, IsWellFormed}
use Rattle.irc_commands.specs.Comings.{RegisteredIsAdded, RegisteredStays}
use Rattle.irc_commands.specs.Comings.{UnregisteredChangesNothing, WhoIsClosedQuits, WhoStaysIsUser}
use Rattle.irc_commands.specs.Possible.{DecidedIsPossible, RegisteringIsPossible}
use Rattle.irc_merge.specs.Merge.{either, merge}
use Rattle.irc_merge.specs.Merge.{room_without as without_clash}
use Rattle.irc_merge.specs.Split.{split}
use Rattle.irc_stage.specs.declared.clients.Client.{Client}
use Rattle.irc_stage.specs.declared.clients.Client.TheVariants.{Registering, Registered}
use Rattle.irc_stage.specs.RoomMachine.{Clients}
use Rattle.irc_stage.specs.Handle.{ClientEvent, connects, says, goes, handled}
use Rattle.irc_world.specs.World.{Setting, Hall, World, new_world, home_in, home_of, machine_at}
use Rattle.irc_world.specs.World.{with_hall}
use Rattle.irc_world.specs.Stepping.{Item, connect, line, gone, link, cut, step, still as unmoved}
use Rattle.irc_world.specs.Stepping.{by_machine, by_client, surviving, clashes_in, merged}
use Rattle.irc_world.specs.Stepping.{link_made, remaining, parted as cut_apart, split_text}
use Rattle.irc_world.specs.Stepping.{servers_on_side}
use Rattle.irc_world.specs.Owed.{after_items}
use Rattle.irc_world.specs.Sound.{IsSound, AreTaken}
use Rattle.irc_world.specs.Laws.{StepStaysSound}
use Rattle.irc_world.specs.UsersHomes.{HomesAreServers, StepKeepsHomes, HomesAreJoined}
use Rattle.irc_world.specs.UsersHomes.{StepKeepsHomesJoined}
use Rattle.irc_room.specs.Readers.{home_under}
use Rattle.irc_world.specs.ClientsUsers.{fold_of, registered_as, AreMatched, ClientsAreUsers}
use Rattle.irc_world.specs.ClientsUsers.{StepKeepsMatched, RegisteredAreUsers}
use Rattle.irc_world.proofs.Halls.{hall_with}
use Rattle.irc_world.proofs.HomesKept.{named, no_users}
use Rattle.irc_world.proofs.HomesJoined.{passing, near_sides, far_sides, at_lost_side}
use Rattle.irc_world.proofs.HomesJoined.{at_other_side, nobody_joined}
use Rattle.irc_world.proofs.MachineMatches.{home_in_row, IsDue, handled_matched}
use Rattle.irc_world.proofs.Matches.{IsOfBoth, fewer_matched, both_matched}
use Rattle.irc_world.proofs.ServedAlone.{past_end}
use Rattle.irc_world.specs.Lemmas.HomesAdded.{still_home}
use Rattle.irc_world.proofs.StaysSound.{new_world_is_sound, LinkIsTaken, link_taken, link_there}
use Rattle.irc_world.proofs.StaysSound.{two_parts, one_part}
use Rattle.irc_world.specs.Lemmas.MergedClients.{first_of, survivor, get-kept, get-merged}
use Rattle.irc_world.proofs.WhoLeaves.{is_at_one, split_row, split_was, without_row, without_was}
use Rattle.irc_world.proofs.WhoLeaves.{merge_row}

abbrev pub MatchedHall : List Name → Hall → Type 0
MatchedHall homes hall =
    AreMatched (home_in homes) (home_under hall.room) (registered_as hall.clients)

-- a user under a fold, from its home
in_row : {A : Type 0} (home : Name) (o : Option User) → home_in_row o ≡ Some home
    → ((user : User) → o ≡ Some user → user.home ≡ home → A) → A
in_row home None is found = absurd (cc is)
in_row home (Some user) is found = found user refl (same_Some user.home home is)

-- a client under a number, from its fold
in_clients : {A : Type 0} (fold : List ℕ) (o : Option Client) → option_and_then fold_of o
    ≡ Some fold → ((nick : List ℕ) → o ≡ Some (Registered nick) → key nick ≡ fold → A) → A
in_clients fold None is found = absurd (cc is)
in_clients fold (Some (Registering pending)) is found = absurd (cc is)
in_clients fold (Some (Registered nick)) is found = found nick refl (same_Some (key nick) fold is)

-- ---- a client does something

more_matched : (homes : List Name) (new : Name) (hall : Hall) → MatchedHall homes hall
    → MatchedHall (homes ++ new ∷ []) hall
more_matched homes new hall matched = record {
  registered_is_user = λ client fold is.
      let old = matched.registered_is_user client fold is in
      record {
        home = old.home;
        of_client = still client old.home old.of_client;
        of_user = old.of_user;
      };
  user_has_one = matched.user_has_one;
  user_has_client = matched.user_has_client;
}
  where
    still : (client : ℕ) (home : Name) → home_in homes client ≡ Some home
        → home_in (homes ++ new ∷ []) client ≡ Some home
    still zero home is = absurd (cc is)
    still (suc earlier) home is = still_home homes new earlier home is

is_here : (settings : List Setting) (world : World) (client : ℕ) (home : Name)
    → home_of world client ≡ Some home
    → home_of world client ≡ Some (machine_at settings world home).place.name
is_here settings world client home is =
    is ∙ ap Some (sym (named settings settings world.links home))

module _ (decided_possible : DecidedIsPossible) (stays : WhoStaysIsUser) (closes : WhoIsClosedQuits)
    (registering_possible : RegisteringIsPossible)
    (added : RegisteredIsAdded) (unchanging : UnregisteredChangesNothing) (kept : RegisteredStays)
    (settings : List Setting) where
  machine_keeps : (world : World) (home : Name) (client_event : ClientEvent) → IsWellFormed
      (world.hall home).room → IsDue (home_of world) (machine_at settings world home) client_event
      → ClientsAreUsers world → ClientsAreUsers (by_machine settings world home client_event).state
  machine_keeps world home client_event well due all s =
      hall_with (MatchedHall world.homes) home s hall world
      (λ _. handled_matched (home_of world) decided_possible stays closes registering_possible added
      unchanging kept (machine_at settings world home)
      (all home) well
      client_event due)
      (λ _. all s)
    where
      hall : Hall
      hall = record {
        clients = (handled (machine_at settings world home) client_event).state.clients;
        room = (handled (machine_at settings world home) client_event).state.room;
      }

  connect_keeps : (world : World) (server : Name) (host : List ℕ)
      → IsSound settings world → ClientsAreUsers world → ClientsAreUsers
      (by_machine settings (record world { homes = world.homes ++ server ∷ [] }) server
      (connects (suc (length world.homes)) host)).state
  connect_keeps world server host sound all =
      machine_keeps (record world { homes = world.homes ++ server ∷ [] }) server
      (connects (suc (length world.homes)) host) (sound.well_formed server)
      (by (get (world.hall server).clients (suc (length world.homes))) refl)
      (λ s. more_matched world.homes server (world.hall s) (all s))
    where
      by : (o : Option Client) → get (world.hall server).clients (suc (length world.homes)) ≡ o
          → o ≡ None
      by None _ = refl
      by (Some client) is =
          let at_home = sound.clients_home server (suc (length world.homes)) (ap is_some is) in
          absurd (let none = sym (past_end world.homes) ∙ at_home.is_home in cc none)

  client_keeps : (world : World) (client : ℕ) (client_event : ClientEvent)
      → ((home : Name) → home_of world client ≡ Some home → IsDue (home_of world)
      (machine_at settings world home) client_event) → IsSound settings world
      → ClientsAreUsers world → ClientsAreUsers (by_client settings world client client_event).state
  client_keeps world client client_event due sound all = by (home_of world client) refl
    where
      by : (o : Option Name) → home_of world client ≡ o → ClientsAreUsers
          (option_map_or (λ home. by_machine settings world home client_event) o
          (unmoved world)).state
      by None is = all
      by (Some home) is =
          machine_keeps world home client_event (sound.well_formed home) (due home is) all

-- ---- two parts are linked

cond_is : {X : Type 0} (b : Bool) (x : X) → cond b None (Some x) ≡ Some x → b ≡ false
cond_is true x is = absurd (cc is)
cond_is false x is = refl

-- one side without those who clash with the other
module _ (homes : List Name) (room other : Room) (clients : Clients) (well : IsWellFormed room)
    (matched : AreMatched (home_in homes) (home_under room) (registered_as clients)) where
  abbrev clashes : List ℕ → Bool
  clashes fold = is_some (row other.users fold)

  user_survives : (fold : List ℕ) (home : Name) → home_under room fold ≡ Some home
      → home_under (without_clash room other) fold ≡ cond (clashes fold) None (Some home)
  user_survives fold home is = in_row home (row room.users fold) is (λ user there home_is.
      ap home_in_row (without_row room other well fold user there) ∙ by (clashes fold) user
      ∙ ap (λ h. cond (clashes fold) None (Some h)) home_is)
    where
      by : (b : Bool) (user : User)
          → home_in_row (cond b None (Some user)) ≡ cond b None (Some user.home)
      by true user = refl
      by false user = refl

  client_survives : (client : ℕ) (fold : List ℕ) → registered_as clients client ≡ Some fold
      → registered_as (surviving other clients) client ≡ cond (clashes fold) None (Some fold)
  client_survives client fold is = in_clients fold (get clients client) is (λ nick there fold_is.
      ap (option_and_then fold_of)
      (get-kept clients (λ c. not (clashes_in other (get clients c))) client)
      ∙ ap (λ o. option_and_then fold_of (cond (not (clashes_in other o)) o None)) there
      ∙ by (is_some (row other.users (key nick))) nick
      ∙ ap (λ f. cond (clashes f) None (Some f)) fold_is)
    where
      by : (b : Bool) (nick : List ℕ) → option_and_then fold_of
          (cond (not b) (Some (Registered nick)) None) ≡ cond b None (Some (key nick))
      by true nick = refl
      by false nick = refl

  client_was : (client : ℕ) (fold : List ℕ) → registered_as (surviving other clients) client
      ≡ Some fold → registered_as clients client ≡ Some fold
  client_was client fold is =
      by (not (clashes_in other (get clients client)))
      (sym (ap (option_and_then fold_of)
      (get-kept clients (λ c. not (clashes_in other (get clients c))) client)) ∙ is)
    where
      by : (b : Bool) → option_and_then fold_of (cond b (get clients client) None) ≡ Some fold
          → registered_as clients client ≡ Some fold
      by true is = is
      by false is = absurd (cc is)

  user_was : (fold : List ℕ) (home : Name) → home_under (without_clash room other) fold ≡ Some home
      → home_under room fold ≡ Some home
  user_was fold home is =
      in_row home (row (without_clash room other).users fold) is (λ user there home_is.
      ap home_in_row (without_was room other well fold user there) ∙ ap Some home_is)

  survivors_matched : AreMatched (home_in homes) (home_under (without_clash room other))
      (registered_as (surviving other clients))
  survivors_matched =
      fewer_matched (home_in homes) (home_under room) (registered_as clients) matched
      (home_under (without_clash room other))
      (registered_as (surviving other clients)) user_was client_was
      (λ client fold home was of_client of_user is.
      user_survives fold home of_user ∙ ap (λ b. cond b None (Some home))
      (cond_is (clashes fold) fold (sym (client_survives client fold was) ∙ is)))
      (λ client fold home was of_client of_user is.
      client_survives client fold was ∙ ap (λ b. cond b None (Some fold))
      (cond_is (clashes fold) home (sym (user_survives fold home of_user) ∙ is)))

module _ (settings : List Setting) (world : World) (near far : Name)
    (sound : IsSound settings world) (all : ClientsAreUsers world)
    (taken : LinkIsTaken settings world near far) where
  abbrev one : Hall
  one = world.hall near

  abbrev other : Hall
  other = world.hall far

  one_place : (client : ℕ) → is_some (get one.clients client) ≡ true
      → is_some (get other.clients client) ≡ true → ⊥
  one_place client here behind =
      let near_home = sound.clients_home near client here in
      let far_home = sound.clients_home far client behind in
      let home =
      same_Some near_home.home far_home.home (sym near_home.is_home ∙ far_home.is_home) in
      two_parts world.links near far taken.apart (sym near_home.joined
      ∙ (ap (part world.links) home ∙ far_home.joined))

  -- no nickname is held on both sides then
  held_apart : (fold : List ℕ) (home there : Name)
      → home_under (without_clash one.room other.room) fold ≡ Some home
      → home_under (without_clash other.room one.room) fold ≡ Some there → ⊥
  held_apart fold home there is behind =
      let was = user_was world.homes one.room other.room one.clients (sound.well_formed near)
      (all near) fold home is in
      let alone = cond_is (is_some (row other.room.users fold)) home
      (sym (user_survives world.homes one.room other.room one.clients (sound.well_formed near)
      (all near) fold home was) ∙ is) in
      in_row there (row other.room.users fold) (user_was world.homes other.room one.room
      other.clients (sound.well_formed far) (all far) fold there behind)
      (λ user found _. let none = sym alone ∙ ap is_some found in cc none)

  users_of_both : IsOfBoth (home_under (without_clash one.room other.room))
      (home_under (without_clash other.room one.room))
      (home_under (merge one.room other.room))
  users_of_both = record {
    of = λ fold home is.
        of_either fold home (row (without_clash one.room other.room).users fold) refl
        (sym (ap home_in_row (merge_row one.room other.room fold)) ∙ is);
    first = λ fold home is. ap home_in_row (merge_row one.room other.room fold)
        ∙ of_first fold home (row (without_clash one.room other.room).users fold) is;
    second = λ fold home is.
        ap home_in_row (merge_row one.room other.room fold)
        ∙ of_second fold home is (row (without_clash one.room other.room).users fold) refl;
  }
    where
      second_row : List ℕ → Option User
      second_row fold = row (without_clash other.room one.room).users fold

      of_either : (fold : List ℕ) (home : Name) (o : Option User)
          → row (without_clash one.room other.room).users fold ≡ o
          → home_in_row (either o (second_row fold)) ≡ Some home
          → (home_under (without_clash one.room other.room) fold ≡ Some home)
          ⊎ (home_under (without_clash other.room one.room) fold ≡ Some home)
      of_either fold home None at is = inr is
      of_either fold home (Some user) at is = inl (ap home_in_row at ∙ is)

      of_first : (fold : List ℕ) (home : Name) (o : Option User) → home_in_row o ≡ Some home
          → home_in_row (either o (second_row fold)) ≡ Some home
      of_first fold home None is = absurd (cc is)
      of_first fold home (Some user) is = is

      of_second : (fold : List ℕ) (home : Name) → home_in_row (second_row fold) ≡ Some home
          → (o : Option User) → row (without_clash one.room other.room).users fold ≡ o
          → home_in_row (either o (second_row fold)) ≡ Some home
      of_second fold home is None at = is
      of_second fold home is (Some user) at =
          absurd (held_apart fold user.home home (ap home_in_row at) is)

  clients_of_both : IsOfBoth (registered_as (surviving other.room one.clients))
      (registered_as (surviving one.room other.clients))
      (registered_as (merged one other).clients)
  clients_of_both = record {
    of = λ client fold is. ⊎_elim
        (λ (here : option_and_then fold_of (survivor other.room one.clients client)
        ≡ Some fold). inl (kept_one client ∙ here))
        (λ (there : option_and_then fold_of (survivor one.room other.clients client)
        ≡ Some fold). inr (kept_other client ∙ there))
        (of_either fold (survivor other.room one.clients client)
        (survivor one.room other.clients client) (sym (kept_both client) ∙ is));
    first =
        λ client fold is. kept_both client
        ∙ of_first fold (survivor other.room one.clients client)
        (survivor one.room other.clients client) (sym (kept_one client) ∙ is);
    second = λ client fold is. kept_both client ∙ of_second fold
        (survivor other.room one.clients client) (survivor one.room other.clients client)
        (λ here there. one_place client
        (kept_some (not (clashes_in other.room (get one.clients client)))
        (get one.clients client) here)
        (kept_some (not (clashes_in one.room (get other.clients client)))
        (get other.clients client) there))
        (sym (kept_other client) ∙ is);
  }
    where
      kept_one : (client : ℕ) → registered_as (surviving other.room one.clients) client
          ≡ option_and_then fold_of (survivor other.room one.clients client)
      kept_one client = ap (option_and_then fold_of)
          (get-kept one.clients (λ c. not (clashes_in other.room (get one.clients c))) client)

      kept_other : (client : ℕ) → registered_as (surviving one.room other.clients) client
          ≡ option_and_then fold_of (survivor one.room other.clients client)
      kept_other client = ap (option_and_then fold_of)
          (get-kept other.clients (λ c. not (clashes_in one.room (get other.clients c))) client)

      kept_both : (client : ℕ) → registered_as (merged one other).clients client
          ≡ option_and_then fold_of (first_of (survivor other.room one.clients client)
          (survivor one.room other.clients client))
      kept_both client = ap (option_and_then fold_of) (get-merged one other client)

      kept_some : (b : Bool) (o : Option Client) → is_some (cond b o None) ≡ true → is_some o ≡ true
      kept_some true o there = there
      kept_some false o there = absurd (let none : false ≡ true = there in cc none)

      of_either : (fold : List ℕ) (x y : Option Client)
          → option_and_then fold_of (first_of x y) ≡ Some fold
          → (option_and_then fold_of x ≡ Some fold) ⊎ (option_and_then fold_of y ≡ Some fold)
      of_either fold None y is = inr is
      of_either fold (Some client) y is = inl is

      of_first : (fold : List ℕ) (x y : Option Client) → option_and_then fold_of x ≡ Some fold
          → option_and_then fold_of (first_of x y) ≡ Some fold
      of_first fold None y is = absurd (cc is)
      of_first fold (Some client) y is = is

      of_second : (fold : List ℕ) (x y : Option Client)
          → (is_some x ≡ true → is_some y ≡ true → ⊥) → option_and_then fold_of y ≡ Some fold
          → option_and_then fold_of (first_of x y) ≡ Some fold
      of_second fold None y apart is = is
      of_second fold (Some client) None apart is = absurd (cc is)
      of_second fold (Some client) (Some second) apart is = absurd (apart refl refl)

  merged_matched : MatchedHall world.homes (merged one other)
  merged_matched = both_matched (home_of world)
      (home_under (without_clash one.room other.room))
      (home_under (without_clash other.room one.room)) (home_under (merge one.room other.room))
      (registered_as (surviving other.room one.clients)) (registered_as
      (surviving one.room other.clients)) (registered_as (merged one other).clients)
      (survivors_matched world.homes one.room other.room one.clients (sound.well_formed near)
      (all near))
      (survivors_matched world.homes other.room one.room other.clients (sound.well_formed far)
      (all far))
      users_of_both clients_of_both held_apart

  link_keeps : ClientsAreUsers (link_made world near far).state
  link_keeps s = hall_with (MatchedHall world.homes) near s (merged one other)
      (record world { links = record { near = near; far = far } ∷ world.links })
      (λ _. merged_matched) (λ _. all s)

-- ---- a link is lost

-- What is left of one side, where its own users' homes are on it and all others' on the lost one:
-- who stays is matched.
module _ (settings : List Setting) (world : World) (rest : List Link) (one other : Name)
    (text : List ℕ) (well : IsWellFormed (world.hall one).room)
    (all : ClientsAreUsers world) (known : HomesAreServers settings world)
    (sides : (fold : List ℕ) (user : User) → row (world.hall one).room.users fold ≡ Some user
    → (joined rest one user.home ≡ false) ⊎ (joined rest other user.home ≡ false))
    (somewhere : (fold : List ℕ) (user : User) → row (world.hall one).room.users fold ≡ Some user
    → (joined rest one user.home ≡ true) ⊎ (joined rest other user.home ≡ true)) where
  abbrev left_room : Room
  left_room = split text (servers_on_side settings rest other) (world.hall one).room

  abbrev is_kept : ℕ → Bool
  is_kept client = option_map_or (joined rest one) (home_of world client) false

  abbrev left_clients : Clients
  left_clients = retain_keys (world.hall one).clients is_kept

  -- whether a user is lost
  lost : (fold : List ℕ) (user : User) → row (world.hall one).room.users fold ≡ Some user
      → is_at_one (servers_on_side settings rest other) user ≡ not (joined rest one user.home)
  lost fold user is = ⊎_elim
      (λ (here : joined rest one user.home ≡ true). ⊎_elim
      (λ (none : joined rest one user.home ≡ false).
      absurd (let clash = sym none ∙ here in cc clash))
      (λ (fails : joined rest other user.home ≡ false).
      at_other_side settings (joined rest other) user fails ∙ ap not (sym here))
      (sides fold user is))
      (λ (there : joined rest other user.home ≡ true). ⊎_elim
      (λ (fails : joined rest one user.home ≡ false).
      at_lost_side settings (joined rest other) user (known one fold user is) there
      ∙ ap not (sym fails))
      (λ (none : joined rest other user.home ≡ false).
      absurd (let clash = sym none ∙ there in cc clash))
      (sides fold user is))
      (somewhere fold user is)

  user_left : (fold : List ℕ) (home : Name) → home_under (world.hall one).room fold ≡ Some home
      → home_under left_room fold ≡ cond (joined rest one home) (Some home) None
  user_left fold home is =
      in_row home (row (world.hall one).room.users fold) is (λ user there home_is.
      ap home_in_row (split_row text (servers_on_side settings rest other)
      (world.hall one).room well fold user there
      ∙ ap (λ b. cond b None (Some user)) (lost fold user there))
      ∙ by (joined rest one user.home) user
      ∙ ap (λ h. cond (joined rest one h) (Some h) None) home_is)
    where
      by : (b : Bool) (user : User)
          → home_in_row (cond (not b) None (Some user)) ≡ cond b (Some user.home) None
      by true user = refl
      by false user = refl

  client_left : (client : ℕ) (fold : List ℕ) (home : Name)
      → registered_as (world.hall one).clients client ≡ Some fold → home_of world client ≡ Some home
      → registered_as left_clients client ≡ cond (joined rest one home) (Some fold) None
  client_left client fold home is home_is =
      ap (option_and_then fold_of) (get-kept (world.hall one).clients is_kept client)
      ∙ by (is_kept client) (get (world.hall one).clients client)
      ∙ (λ i. cond (option_map_or (joined rest one) (home_is i) false) (is i) None)
    where
      by : (b : Bool) (o : Option Client)
          → option_and_then fold_of (cond b o None) ≡ cond b (option_and_then fold_of o) None
      by true o = refl
      by false o = refl

  left_user_was : (fold : List ℕ) (home : Name) → home_under left_room fold ≡ Some home
      → home_under (world.hall one).room fold ≡ Some home
  left_user_was fold home is = by (row (world.hall one).room.users fold) refl
    where
      by : (o : Option User) → row (world.hall one).room.users fold ≡ o → home_in_row o ≡ Some home
      by None none = in_row home (row left_room.users fold) is (λ user there home_is.
          absurd (let clash = sym none ∙ split_was text (servers_on_side settings rest other)
          (world.hall one).room well fold user there in cc clash))
      by (Some user) there =
          which (joined rest one user.home)
          (sym (user_left fold user.home (ap home_in_row there)) ∙ is)
        where
          which : (b : Bool) → cond b (Some user.home) None ≡ Some home → Some user.home ≡ Some home
          which true is = is
          which false is = absurd (cc is)

  left_client_was : (client : ℕ) (fold : List ℕ) → registered_as left_clients client ≡ Some fold
      → registered_as (world.hall one).clients client ≡ Some fold
  left_client_was client fold is = by (is_kept client)
      (sym (ap (option_and_then fold_of) (get-kept (world.hall one).clients is_kept client)) ∙ is)
    where
      by : (b : Bool) → option_and_then fold_of (cond b (get (world.hall one).clients client) None)
          ≡ Some fold → registered_as (world.hall one).clients client ≡ Some fold
      by true is = is
      by false is = absurd (cc is)

  pub left_matched : MatchedHall world.homes (record { clients = left_clients; room = left_room })
  left_matched = fewer_matched (home_of world) (home_under (world.hall one).room)
      (registered_as (world.hall one).clients) (all one)
      (home_under left_room) (registered_as left_clients) left_user_was left_client_was
      (λ client fold home was of_client of_user is.
      user_left fold home of_user
      ∙ ap (λ b. cond b (Some home) None) (is_true (joined rest one home) fold
      (sym (client_left client fold home was of_client) ∙ is)))
      (λ client fold home was of_client of_user is.
      client_left client fold home was of_client
      ∙ ap (λ b. cond b (Some fold) None)
      (is_true (joined rest one home) home (sym (user_left fold home of_user) ∙ is)))
    where
      is_true : {X : Type 0} (b : Bool) (x : X) → cond b (Some x) None ≡ Some x → b ≡ true
      is_true true x is = refl
      is_true false x is = absurd (cc is)

module _ (tests : TestsTell) (taken_out : LinkTakenOut) (over_link : JoinedOverLink)
    (settings : List Setting) (world : World) (near far : Name)
    (sound : IsSound settings world) (known : HomesAreServers settings world)
    (in_part : HomesAreJoined world) (all : ClientsAreUsers world)
    (are : AreLinked world.links near far) where
  abbrev rest : List Link
  rest = links_without world.links near far

  is_left : IsLeft rest world.links near far
  is_left = taken_out world.links near far sound.forest are

  -- no server is on both sides
  one_side : (home : Name) → (joined rest near home ≡ false) ⊎ (joined rest far home ≡ false)
  one_side home = by (joined rest near home) (joined rest far home) refl refl
    where
      by : (b c : Bool) → joined rest near home ≡ b → joined rest far home ≡ c
          → (b ≡ false) ⊎ (c ≡ false)
      by false c here there = inl refl
      by true false here there = inr refl
      by true true here there = absurd
          (is_left.parted (one_part rest near home here ∙ sym (one_part rest far home there)))

  swapped : (b c : Name) → joined rest b c ≡ true → joined rest c b ≡ true
  swapped b c is = passing tests rest c b (sym (one_part rest b c is))

  near_left : MatchedHall world.homes (remaining settings world rest near far)
  near_left = left_matched settings world rest near far (split_text near far)
      (sound.well_formed near) all known
      (λ fold user is. one_side user.home)
      (λ fold user is.
      ⊎_elim (λ (here : joined rest user.home near ≡ true). inl (swapped user.home near here))
      (λ (there : joined rest far user.home ≡ true). inr there)
      (near_sides tests taken_out over_link settings world near far sound known in_part are
      user.home (in_part near fold user is)))

  far_left : MatchedHall world.homes (remaining settings world rest far near)
  far_left = left_matched settings world rest far near (split_text far near)
      (sound.well_formed far) all known
      (λ fold user is. ⊎_elim (λ (b : joined rest near user.home ≡ false). inr b)
      (λ (c : joined rest far user.home ≡ false). inl c) (one_side user.home))
      (λ fold user is.
      ⊎_elim (λ (here : joined rest user.home far ≡ true). inl (swapped user.home far here))
      (λ (there : joined rest near user.home ≡ true). inr there)
      (far_sides tests taken_out over_link settings world near far sound known in_part are user.home
      (in_part far fold user is)))

  cut_keeps : ClientsAreUsers (cut_apart settings world rest near far).state
  cut_keeps s =
      hall_with (MatchedHall world.homes) far s (remaining settings world rest far near)
      (with_hall near (remaining settings world rest near far) (record world { links = rest }))
      (λ _. far_left)
      (λ _. hall_with (MatchedHall world.homes) near s (remaining settings world rest near far)
      (record world { links = rest }) (λ _. near_left) (λ _. all s))

-- ---- any item

module _ (tests : TestsTell) (taken_out : LinkTakenOut) (over_link : JoinedOverLink)
    (decided_possible : DecidedIsPossible) (stays : WhoStaysIsUser)
    (closes : WhoIsClosedQuits) (registering_possible : RegisteringIsPossible)
    (added : RegisteredIsAdded) (unchanging : UnregisteredChangesNothing)
    (kept : RegisteredStays) where
  pub step_keeps_matched : StepKeepsMatched
  unfolding step
  step_keeps_matched settings world (connect server host) sound known in_part all taken =
      connect_keeps decided_possible stays closes registering_possible added unchanging kept
      settings world server host sound all
  step_keeps_matched settings world (line client bytes) sound known in_part all taken =
      client_keeps decided_possible stays closes registering_possible added unchanging kept settings
      world client (says client (read_of bytes))
      (is_here settings world client) sound all
  step_keeps_matched settings world (gone client) sound known in_part all taken =
      client_keeps decided_possible stays closes registering_possible added unchanging kept settings
      world client (goes client)
      (is_here settings world client) sound all
  step_keeps_matched settings world (link near far) sound known in_part all taken =
      link_keeps settings world near far sound all (link_taken settings world near far taken)
  step_keeps_matched settings world (cut near far) sound known in_part all taken =
      cut_keeps tests taken_out over_link settings world near far sound known in_part all
      (link_there tests settings world near far taken)

nobody_matched : ClientsAreUsers new_world
nobody_matched server = record {
  registered_is_user = λ client fold is. absurd (no_client client fold is);
  user_has_one = λ client other fold is is_other. absurd (no_client client fold is);
  user_has_client = λ fold home is.
      absurd (let none = sym (ap home_in_row (get-empty {X = User} fold_cmp fold)) ∙ is in cc none);
}
  where
    no_client : (client : ℕ) (fold : List ℕ)
        → registered_as (empty {X = Client} {R = nat_cmp}) client ≡ Some fold → ⊥
    no_client client fold is = let none =
        sym (ap (option_and_then fold_of) (get-empty {X = Client} nat_cmp client)) ∙ is in cc none

module _ (match_too : StepKeepsMatched) (joined_too : StepKeepsHomesJoined) (keeps : StepKeepsHomes)
    (stays : StepStaysSound) (settings : List Setting) where
  items_match : (items : List Item) (world : World) → IsSound settings world
      → HomesAreServers settings world → HomesAreJoined world → ClientsAreUsers world
      → AreTaken settings world items → ClientsAreUsers (after_items settings world items)
  items_match [] world sound known in_part all taken = all
  items_match (item ∷ items) world sound known in_part all taken =
      items_match items (step settings world item).state (stays settings world item sound taken.now)
      (keeps settings world item sound known taken.now)
      (joined_too settings world item sound known in_part taken.now)
      (match_too settings world item sound known in_part all taken.now) taken.later

pub registered_are_users : StepKeepsMatched → StepKeepsHomesJoined → StepKeepsHomes → StepStaysSound
    → RegisteredAreUsers
registered_are_users match_too joined_too keeps stays settings items taken =
    items_match match_too joined_too keeps stays settings items new_world
    (new_world_is_sound settings) (no_users settings) nobody_joined nobody_matched taken
