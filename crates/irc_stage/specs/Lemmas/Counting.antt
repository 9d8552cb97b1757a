-- What comes by a link leaves clients and users matched, and the room well formed.
use Rattle.std.proofs.Common.{◌≡◌, ℕ, Bool, true, false, cond, not, ◌&&◌, is_none, is_some, Option}
use Rattle.std.proofs.Common.{Some, None, List, ◌++◌, refl, sym, ◌∙◌, ap, subst}
use Rattle.std.proofs.Common.{if◌then◌else◌}
use Rattle.std.specs.List.{list_all}
use Rattle.std.specs.Option.{option_map_or}
use Rattle.std.specs.FinMap.{get, retain_keys, get-retain_keys, nat_cmp-IsAntisymmetric}
use Rattle.std.specs.Cmp.Lexicographic.{bytes_decides}
use Rattle.std.proofs.lemmas.Bool.{not-true, and_parts}
use Rattle.std.proofs.lemmas.Option.{same_Some}
use Rattle.irc_names.specs.Fold.{key, same}
use Rattle.irc_names.specs.Tables.{Table, row, alter}
use Rattle.irc_names.specs.TableLaws.{same_fold, same_fold-refl, one_fold, row-alter}
use Rattle.irc_users.specs.declared.user.User.{User}
use Rattle.irc_users.specs.UserTable.{is_home}
use Rattle.irc_room.specs.effect.Effect.{Effect}
use Rattle.irc_room.specs.effect.Effect.TheVariants.{AddUser, Rename, Quit}
use Rattle.irc_room.specs.effect.Effect.TheVariants.{Say}
use Rattle.irc_room.specs.fault.RoomFault.TheVariants.{NoSuchUser, NoSuchChannel}
use Rattle.irc_room.specs.After.{after}
use Rattle.irc_room.specs.Applying.{does, missing_fault}
use Rattle.irc_room.specs.Effects.{brings_free, has_channel, has_user, is_idle, needs_channel}
use Rattle.irc_room.specs.Effects.{needs_users, IsPossible}
use Rattle.irc_room.specs.Lemmas.WellFormedLaw.{after_is_well_formed}
use Rattle.irc_room.specs.Room.{Room, IsWellFormed}
use Rattle.irc_stage.specs.declared.clients.Client.{Client}
use Rattle.irc_stage.specs.declared.clients.Client.TheVariants.{Registering, Registered}
use Rattle.irc_stage.specs.RoomMachine.{Clients, RoomMachine, client_of}
use Rattle.irc_stage.specs.Handle.{clients_after, is_client, machine_after}
use Rattle.irc_stage.specs.Matched.{has_client, is_user_here, IsMatched}
use Rattle.irc_stage.specs.View.{View, machine_of}
use Rattle.irc_stage.specs.EffectTold.{Served, changed, changed_if, client_ended, counts}
use Rattle.irc_stage.specs.EffectTold.{effect_came, effect_told, is_another, is_elsewhere}
use Rattle.irc_stage.specs.EffectTold.{is_of_here, shown_at, taken_out}
use Rattle.irc_stage.specs.Loops.Speaking.{IsSaidElsewhere}
use Rattle.irc_stage.specs.Lemmas.Matching.{has_from, has_to, key_by_same, named_is, nick_in}
use Rattle.irc_stage.specs.Lemmas.Matching.{quiet_matched, same_by_key}

-- what always holds of a server that serves
pub record Holds (s : Served) : Type 0 where
  pub matched : IsMatched (machine_of s.state)
  pub well : IsWellFormed s.state.room

-- ---- an effect that counts is possible

nothing_missing : (there known : Bool) → is_none (if not there then Some NoSuchUser else
    (if not known then Some NoSuchChannel else None)) ≡ true → (there ≡ true) × (known ≡ true)
nothing_missing true true is = (refl, refl)
nothing_missing true false is = cc is
nothing_missing false known is = cc is

pub possible_by : (room : Room) (effect : Effect) → does room effect ≡ true
    → brings_free room effect ≡ true → IsPossible room effect
possible_by room effect doing free =
    let there = nothing_missing (list_all (has_user room) (needs_users effect))
    (option_map_or (has_channel room) (needs_channel effect) true)
    (and_parts (is_none (missing_fault room effect)) (not (is_idle room effect)) doing).0 in
    record { users_there = there.0; channel_there = there.1; nick_free = free }

pub counted : (view : View) (effect : Effect) → counts view effect ≡ true
    → IsPossible view.room effect × (is_of_here view effect ≡ false)
counted view effect is =
    let first = and_parts (does view.room effect)
    (brings_free view.room effect && not (is_of_here view effect)) is in
    let second = and_parts (brings_free view.room effect) (not (is_of_here view effect)) first.1 in
    (possible_by view.room effect first.0 second.0, not-true (is_of_here view effect) second.1)

-- ---- a user of another server comes

module _ (machine : RoomMachine) (user : User) (matched : IsMatched machine)
    (free : not (has_user machine.room user.nick) ≡ true)
    (abroad : is_home machine.place.name user ≡ false) where
  -- nobody has its nickname
  no_other : {A : Type 0} (q : ℕ) (name : List ℕ) → get machine.clients q ≡ Some (Registered name)
      → same_fold (key name) (key user.nick) ≡ true → A
  no_other {A} q name is one = by (row machine.room.users (key name)) refl
    where
      here : is_user_here machine name ≡ true
      here = matched.registered_is_user q name is

      none : is_some (row machine.room.users (key name)) ≡ false
      none = ap (λ f. is_some (row machine.room.users f)) (one_fold (key name) (key user.nick) one)
          ∙ not-true (has_user machine.room user.nick) free

      by : (o : Option User) → row machine.room.users (key name) ≡ o → A
      by None there = absurd
          (cc (sym (ap (λ o. option_map_or (is_home machine.place.name) o false) there) ∙ here))
      by (Some found) there = absurd (cc (sym (ap is_some there) ∙ none))

  abbrev new_users : Table User
  new_users = alter (key user.nick) (λ _. Some user) machine.room.users

  old_row : (q : ℕ) (name : List ℕ) → get machine.clients q ≡ Some (Registered name)
      → row new_users (key name) ≡ row machine.room.users (key name)
  old_row q name is = row-alter (key user.nick) (λ _. Some user) machine.room.users (key name)
      ∙ by (same_fold (key name) (key user.nick)) refl
    where
      by : (b : Bool) → same_fold (key name) (key user.nick) ≡ b → cond b (Some user)
          (row machine.room.users (key name)) ≡ row machine.room.users (key name)
      by true one = no_other q name is one
      by false two = refl

  had : (fold : List ℕ) (other : User) → other.home ≡ machine.place.name → (b : Bool)
      → same_fold fold (key user.nick) ≡ b → cond b (Some user) (row machine.room.users fold)
      ≡ Some other → has_client machine.clients fold ≡ true
  had fold other home true one is =
      absurd (cc (sym ((bytes_decides user.home machine.place.name).1
      (ap (λ (u : User). u.home) (same_Some user other is) ∙ home)) ∙ abroad))
  had fold other home false two is = matched.user_has_client fold other is home

  newcomer_matched : IsMatched (machine_after machine (AddUser user))
  unfolding after
  newcomer_matched = record {
    registered_is_user = λ q name is. ap (λ o. option_map_or (is_home machine.place.name) o false)
        (old_row q name is) ∙ matched.registered_is_user q name is;
    user_has_one = matched.user_has_one;
    spelled =
        λ q name other is there. matched.spelled q name other is (sym (old_row q name is) ∙ there);
    user_has_client = λ fold other is home.
        had fold other home (same_fold fold (key user.nick)) refl
        (sym (row-alter (key user.nick) (λ _. Some user) machine.room.users fold) ∙ is);
  }

-- ---- a user of another server leaves

module _ (machine : RoomMachine) (who text : List ℕ) (matched : IsMatched machine)
    (abroad : is_user_here machine who ≡ false) where
  is_not_it : {A : Type 0} (q : ℕ) (name : List ℕ) → get machine.clients q ≡ Some (Registered name)
      → same_fold (key name) (key who) ≡ true → A
  is_not_it q name is one =
      absurd (cc (sym (ap (λ f. option_map_or (is_home machine.place.name)
      (row machine.room.users f) false) (sym (one_fold (key name) (key who) one))
      ∙ matched.registered_is_user q name is) ∙ abroad))

  abbrev left_users : Table User
  left_users = alter (key who) (λ _. None) machine.room.users

  left_row : (q : ℕ) (name : List ℕ) → get machine.clients q ≡ Some (Registered name)
      → row left_users (key name) ≡ row machine.room.users (key name)
  left_row q name is = row-alter (key who) (λ _. None) machine.room.users (key name)
      ∙ by (same_fold (key name) (key who)) refl
    where
      by : (b : Bool) → same_fold (key name) (key who) ≡ b
          → cond b None (row machine.room.users (key name)) ≡ row machine.room.users (key name)
      by true one = is_not_it q name is one
      by false two = refl

  has_still : (fold : List ℕ) (other : User) → other.home ≡ machine.place.name
      → (b : Bool) → cond b None (row machine.room.users fold) ≡ Some other
      → has_client machine.clients fold ≡ true
  has_still fold other home true is = cc is
  has_still fold other home false is = matched.user_has_client fold other is home

  leaver_matched : IsMatched (machine_after machine (Quit who text))
  unfolding after
  leaver_matched = record {
    registered_is_user = λ q name is. ap (λ o. option_map_or (is_home machine.place.name) o false)
        (left_row q name is) ∙ matched.registered_is_user q name is;
    user_has_one = matched.user_has_one;
    spelled =
        λ q name other is there. matched.spelled q name other is (sym (left_row q name is) ∙ there);
    user_has_client = λ fold other is home.
        has_still fold other home (same_fold fold (key who))
        (sym (row-alter (key who) (λ _. None) machine.room.users fold) ∙ is);
  }

-- ---- an effect that counts

counted_matched : (view : View) (effect : Effect) → IsMatched (machine_of view)
    → IsPossible view.room effect → is_of_here view effect ≡ false
    → IsMatched (machine_after (machine_of view) effect)
counted_matched view (AddUser user) matched possible abroad =
    newcomer_matched (machine_of view) user matched possible.nick_free abroad
counted_matched view (Quit nick text) matched possible abroad =
    leaver_matched (machine_of view) nick text matched abroad
counted_matched view other matched possible abroad =
    quiet_matched (machine_of view) other matched possible refl

-- an invitation of another server's user changes no client
pub same_clients_elsewhere : (view : View) (effect : Effect) → is_elsewhere view effect ≡ true
    → clients_after effect view.clients ≡ view.clients
same_clients_elsewhere view (Rename nick new) is = cc is
same_clients_elsewhere view other is = refl

abbrev with_parts : View → Clients → Room → RoomMachine
with_parts view clients room = machine_of (record view { clients = clients; room = room })

changed_holds : (effect : Effect) (s : Served) → Holds s → IsPossible s.state.room effect
    → IsMatched (machine_after (machine_of s.state) effect) → Holds (changed effect s)
changed_holds effect s holds possible after_matched = by (is_elsewhere s.state effect) refl
  where
    HoldsBy : Bool → Type 0
    HoldsBy b = Holds (record {
      state = record s.state {
        clients = clients_after effect s.state.clients;
        room = if b
            then s.state.room else after s.state.room effect;
      };
      out = s.out ++ shown_at s.state effect;
    })

    by : (b : Bool) → is_elsewhere s.state effect ≡ b → HoldsBy b
    by true is = record {
      matched = subst (λ clients. IsMatched (with_parts s.state clients s.state.room))
          (sym (same_clients_elsewhere s.state effect is)) holds.matched;
      well = holds.well;
    }
    by false is = record {
      matched = after_matched;
      well = after_is_well_formed s.state.room effect holds.well possible;
    }

pub changed_stays : (effect : Effect) (s : Served) → Holds s → counts s.state effect ≡ true
    → Holds (changed effect s)
changed_stays effect s holds is =
    let parts = counted s.state effect is in
    changed_holds effect s holds parts.0
    (counted_matched s.state effect holds.matched parts.0 parts.1)

-- the links are no part of what holds
pub told_holds : (arrival : Option ℕ) (effect : Effect) (s : Served) → Holds (changed effect s)
    → Holds (effect_told arrival effect s)
told_holds arrival effect s holds = record { matched = holds.matched; well = holds.well }

pub changed_if_stays : (effect : Effect) (s : Served) → Holds s → Holds (changed_if effect s)
changed_if_stays effect s holds = by (counts s.state effect) refl
  where
    by : (b : Bool) → counts s.state effect ≡ b → Holds (if b then changed effect s else s)
    by true is = changed_stays effect s holds is
    by false is = holds

pub came_stays : (arrival : Option ℕ) (effect : Effect) (s : Served) → Holds s
    → Holds (effect_came arrival effect s)
came_stays arrival effect s holds = by (counts s.state effect) refl
  where
    by : (b : Bool) → counts s.state effect ≡ b
        → Holds (if b then effect_told arrival effect s else s)
    by true is = told_holds arrival effect s (changed_stays effect s holds is)
    by false is = holds

-- ---- a user is taken out, and with it the client that it is

pub get-kept : (clients : Clients) (p : ℕ → Bool) (q : ℕ)
    → get (retain_keys clients p) q ≡ cond (p q) (get clients q) None
get-kept clients p q =
    get-retain_keys clients p q (λ x tie. ap p (sym (nat_cmp-IsAntisymmetric q x tie)))

module _ (machine : RoomMachine) (nick : List ℕ) (users : Table User)
    (gone : (q : List ℕ) → row users q ≡ cond (same_fold q (key nick)) None
    (row machine.room.users q)) (matched : IsMatched machine) where
  abbrev kept : Clients
  kept = retain_keys machine.clients (is_another machine.clients nick)

  -- who is kept was there, by another nickname
  kept_client : {A : Type 0} (q : ℕ) (name : List ℕ) → get kept q ≡ Some (Registered name)
      → (get machine.clients q ≡ Some (Registered name) → same name nick ≡ false → A) → A
  kept_client {A} q name is gives = by_client (get machine.clients q) refl
    where
      found : (o : Option Client) → get machine.clients q ≡ o → cond (option_map_or
          (λ client. not (is_client nick client)) o true) o None ≡ Some (Registered name)
      found o there =
          ap (λ o'. cond (option_map_or (λ client. not (is_client nick client)) o' true) o' None)
          (sym there)
          ∙ sym (get-kept machine.clients (is_another machine.clients nick) q) ∙ is

      by_same : (other : List ℕ) → get machine.clients q ≡ Some (Registered other)
          → (b : Bool) → same other nick ≡ b
          → cond (not b) (Some (Registered other)) None ≡ Some (Registered name) → A
      by_same other there true one left = cc left
      by_same other there false two left =
          gives (there ∙ left) (sym (ap (λ n. same n nick) (nick_in other name left)) ∙ two)

      by_client : (o : Option Client) → get machine.clients q ≡ o → A
      by_client None there = let none = found None there in cc
      by_client (Some (Registering pending)) there =
          let waits = found (Some (Registering pending)) there in cc
      by_client (Some (Registered other)) there =
          by_same other there (same other nick) refl (found (Some (Registered other)) there)

  other_row : (name : List ℕ) → same name nick ≡ false
      → row users (key name) ≡ row machine.room.users (key name)
  other_row name two = gone (key name) ∙ by (same_fold (key name) (key nick)) refl
    where
      by : (b : Bool) → same_fold (key name) (key nick) ≡ b
          → cond b None (row machine.room.users (key name)) ≡ row machine.room.users (key name)
      by true one = let folds = same_by_key name nick (one_fold (key name) (key nick) one) in
          absurd (cc (sym folds ∙ two))
      by false other = refl

  -- who was there by another nickname is kept
  is_kept : (q : ℕ) (name : List ℕ) → get machine.clients q ≡ Some (Registered name)
      → same name nick ≡ false → get kept q ≡ Some (Registered name)
  is_kept q name is two =
      get-kept machine.clients (is_another machine.clients nick) q
      ∙ ap (λ o. cond (option_map_or (λ client. not (is_client nick client)) o true) o None) is
      ∙ ap (λ b. cond (not b) (Some (Registered name)) None) two

  has_one : (fold : List ℕ) (user : User) → user.home ≡ machine.place.name → (b : Bool)
      → same_fold fold (key nick) ≡ b → cond b None (row machine.room.users fold) ≡ Some user
      → has_client kept fold ≡ true
  has_one fold user home true one is = cc is
  has_one fold user home false two is =
      has_to machine.clients fold (matched.user_has_client fold user is home)
      (λ q name was named. has_from kept q name fold
      (is_kept q name was (another name (same name nick) refl named)) named)
    where
      another : (name : List ℕ) (b : Bool) → same name nick ≡ b → key name ≡ fold
          → same name nick ≡ false
      another name false other named = other
      another name true one named =
          let folds = ap (λ f. same_fold f (key nick)) (sym (key_by_same name nick one) ∙ named) in
          absurd (cc (sym two ∙ sym folds ∙ same_fold-refl (key nick)))

  pub ended_matched : IsMatched (record {
    place = machine.place;
    clients = kept;
    room = record machine.room { users = users };
  })
  ended_matched = record {
    registered_is_user = λ q name is. kept_client q name is (λ was two.
        ap (λ o. option_map_or (is_home machine.place.name) o false) (other_row name two)
        ∙ matched.registered_is_user q name was);
    user_has_one = λ q other first name is is_other same_names.
        kept_client q first is (λ was two. kept_client other name is_other (λ was_other two_other.
        matched.user_has_one q other first name was was_other same_names));
    spelled = λ q name user is there. kept_client q name is
        (λ was two. matched.spelled q name user was (sym (other_row name two) ∙ there));
    user_has_client = λ fold user is home. has_one fold user home (same_fold fold (key nick)) refl
        (sym (gone fold) ∙ is);
  }

-- a user of the room and one that is none leave the same users behind
quit_users : (room : Room) (nick text : List ℕ) (q : List ℕ) → row
    (after room (Quit nick text)).users q ≡ cond (same_fold q (key nick)) None (row room.users q)
unfolding after
quit_users room nick text q = row-alter (key nick) (λ _. None) room.users q

no_users : (room : Room) (nick : List ℕ) → has_user room nick ≡ false → (q : List ℕ)
    → row room.users q ≡ cond (same_fold q (key nick)) None (row room.users q)
no_users room nick none q = by (same_fold q (key nick)) refl
  where
    no_row : (o : Option User) → is_some o ≡ false → o ≡ None
    no_row None is = refl
    no_row (Some user) is = cc is

    by : (b : Bool) → same_fold q (key nick) ≡ b → row room.users q ≡ cond b None (row room.users q)
    by true one =
        ap (row room.users) (one_fold q (key nick) one) ∙ no_row (row room.users (key nick)) none
    by false two = refl

pub quit_possible : (room : Room) (nick text : List ℕ) → has_user room nick ≡ true
    → IsPossible room (Quit nick text)
quit_possible room nick text there =
    record { users_there = ap (λ b. b && true) there; channel_there = refl; nick_free = refl }

pub taken_out_stays : (nick text : List ℕ) (s : Served) → Holds s → Holds (taken_out nick text s)
taken_out_stays nick text s holds = by (has_user s.state.room nick) refl
  where
    by : (b : Bool) → has_user s.state.room nick ≡ b
        → Holds (client_ended nick text (if b then changed (Quit nick text) s else s))
    by true there =
        let one =
        ended_matched (machine_of s.state) nick (after s.state.room (Quit nick text)).users
        (quit_users s.state.room nick text) holds.matched in
        record {
          matched =
              record {
                registered_is_user = one.registered_is_user;
                user_has_one = one.user_has_one;
                spelled = one.spelled;
                user_has_client = one.user_has_client;
              };
          well = after_is_well_formed s.state.room (Quit nick text) holds.well
              (quit_possible s.state.room nick text there);
        }
    by false none = record {
      matched = ended_matched (machine_of s.state) nick s.state.room.users
          (no_users s.state.room nick none) holds.matched;
      well = holds.well;
    }

-- ---- what links tell is no client's

pub said_elsewhere : (view : View) (effect : Effect) → IsMatched (machine_of view)
    → is_of_here view effect ≡ false → IsSaidElsewhere (machine_of view) effect
said_elsewhere view (Say by notice target text) matched abroad = λ conn named.
    named_is (key by) (client_of (machine_of view) conn) named (λ nick is one.
    absurd (cc (sym (ap (λ f. option_map_or (is_home view.routes.name) (row view.room.users f)
    false) (sym one) ∙ matched.registered_is_user conn nick is) ∙ abroad)))
said_elsewhere view other matched abroad = tt
