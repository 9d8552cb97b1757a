-- Users whose home is one server, while its clients do something: who is this server's client is
-- this server's user.
use Rattle.std.proofs.Common.{◌≡◌, ℕ, Bool, true, false, cond, Option, Some, None, List, [], ◌∷◌}
use Rattle.std.proofs.Common.{refl, sym, ◌∙◌, ap, is_some, option_map, if◌then◌else◌}
use Rattle.std.specs.Prelude.{⊤}
use Rattle.std.specs.Cmp.Lexicographic.{bytes_decides}
use Rattle.std.specs.FinMap.{get}
use Rattle.std.specs.List.{AllByRecursion}
use Rattle.std.specs.Cmp.{first_so}
use Rattle.std.proofs.lemmas.Option.{same_Some}
use Rattle.irc_names.specs.Fold.{key}
use Rattle.irc_names.specs.Fold as folded
use Rattle.irc_names.specs.Tables.{Table, row, alter, moved}
use Rattle.irc_names.specs.TableLaws.{same_fold, same_fold-refl, one_fold, row-alter, row-moved}
use Rattle.irc_names.specs.TableLaws.{row-moved_none}
use Rattle.irc_users.specs.declared.user.User.{User}
use Rattle.irc_users.specs.declared.user_change.UserChange.{UserChange}
use Rattle.irc_users.specs.UserTable.{is_home, with_nick, with_change}
use Rattle.irc_room.specs.effect.Effect.{Effect}
use Rattle.irc_room.specs.effect.Effect.TheVariants.{AddUser, Rename, Quit, ChangeUser}
use Rattle.irc_room.specs.After.{after}
use Rattle.irc_room.specs.Effects.{has_user, IsPossible}
use Rattle.irc_room.specs.InTurn.{EachInTurn}
use Rattle.irc_room.specs.Room.{Room, IsWellFormed}
use Rattle.irc_room.specs.Lemmas.WellFormedLaw.{after_is_well_formed}
use Rattle.irc_commands.specs.Doers.{IsDoneBy}
use Rattle.irc_relay.specs.Links.{Name}
use Rattle.irc_stage.specs.declared.clients.Client.{Client}
use Rattle.irc_stage.specs.declared.clients.Client.TheVariants.{Registering, Registered}
use Rattle.irc_stage.specs.Handle.{clients_after, machine_after, renamed_in}
use Rattle.irc_stage.specs.RoomMachine.{Clients, RoomMachine}
use Rattle.irc_stage.specs.Lemmas.Numbers.{get-each}
use Rattle.irc_world.specs.Homes.{HomesPass}
use Rattle.irc_world.specs.Lemmas.HomesPassing.{NewPasses, pass_after}

module _ (t : Name) where
  -- the user under a fold, if there is one, is of this server
  abbrev pub IsOwnAt : Table User → List ℕ → Type 0
  IsOwnAt users fold = (user : User) → row users fold ≡ Some user → is_home t user ≡ true

  -- who comes, or takes another nickname, is of this server
  abbrev pub IsOwnDoing : Room → Effect → Type 0
  IsOwnDoing room (AddUser user) = is_home t user ≡ true
  IsOwnDoing room (Rename nick new) = IsOwnAt room.users (key nick)
  IsOwnDoing room other = ⊤

  pub record IsOwnStep (room : Room) (effect : Effect) : Type 0 where
    pub possible : IsPossible room effect
    pub own : IsOwnDoing room effect

  -- ---- a user is of this server still

  module _ (users : Table User) (fold : List ℕ) (own : IsOwnAt users fold) where
    added : (new : User) → is_home t new ≡ true
        → IsOwnAt (alter (key new.nick) (λ _. Some new) users) fold
    added new here user is = by (same_fold fold (key new.nick))
        (sym (row-alter (key new.nick) (λ _. Some new) users fold) ∙ is)
      where
        by : (b : Bool) → cond b (Some new) (row users fold) ≡ Some user → is_home t user ≡ true
        by true one = ap (is_home t) (sym (same_Some new user one)) ∙ here
        by false two = own user two

    taken_out : (old : List ℕ) → IsOwnAt (alter old (λ _. None) users) fold
    taken_out old user is =
        by (same_fold fold old) (sym (row-alter old (λ _. None) users fold) ∙ is)
      where
        by : (b : Bool) → cond b None (row users fold) ≡ Some user → is_home t user ≡ true
        by true one = absurd (cc one)
        by false two = own user two

    -- in its own place
    same_home : (change : UserChange) (o : Option User) (user : User)
        → ((old : User) → o ≡ Some old → is_home t old ≡ true)
        → option_map (with_change change) o ≡ Some user → is_home t user ≡ true
    same_home change None user all is = absurd (cc is)
    same_home change (Some old) user all is =
        ap (is_home t) (sym (same_Some (with_change change old) user is)) ∙ all old refl

    one_fold_own : (at : List ℕ) → same_fold fold at ≡ true → IsOwnAt users at
    one_fold_own at one user is = own user (ap (row users) (one_fold fold at one) ∙ is)

    seen_or_not : (at : List ℕ) (change : UserChange)
        → IsOwnAt (alter at (option_map (with_change change)) users) fold
    seen_or_not at change user is = by (same_fold fold at) refl
        (sym (row-alter at (option_map (with_change change)) users fold) ∙ is)
      where
        by : (b : Bool) → same_fold fold at ≡ b → cond b (option_map (with_change change)
            (row users at)) (row users fold) ≡ Some user → is_home t user ≡ true
        by true one now = same_home change (row users at) user (one_fold_own at one) now
        by false two now = own user now

    moved_own : (old new nick : List ℕ) → IsOwnAt users old → (o : Option User) → row users old ≡ o
        → IsOwnAt (moved old new (with_nick nick) users) fold
    moved_own old new nick its None there user is =
        own user (sym (row-moved_none old new (with_nick nick) users there fold) ∙ is)
    moved_own old new nick its (Some one) there user is =
        by (same_fold fold new) (same_fold fold old)
        (sym (row-moved old new (with_nick nick) users one there fold) ∙ is)
      where
        by : (b c : Bool) → cond b (Some (with_nick nick one)) (cond c None (row users fold))
            ≡ Some user → is_home t user ≡ true
        by true c now =
            ap (is_home t) (sym (same_Some (with_nick nick one) user now)) ∙ its one there
        by false true now = absurd (cc now)
        by false false now = own user now

  pub own_after : (room : Room) (effect : Effect) (fold : List ℕ) → IsOwnDoing room effect
      → IsOwnAt room.users fold → IsOwnAt (after room effect).users fold
  unfolding after
  own_after room (AddUser user) fold does own = added room.users fold own user does
  own_after room (Rename nick new) fold does own =
      moved_own room.users fold own (key nick) (key new) new does (row room.users (key nick)) refl
  own_after room (Quit nick text) fold does own = taken_out room.users fold own (key nick)
  own_after room (ChangeUser nick change) fold does own =
      seen_or_not room.users fold own (key nick) change
  own_after room other fold does own = own

  -- the new nickname is the old user's
  pub new_is_own : (room : Room) (nick new : List ℕ) → IsOwnAt room.users (key nick)
      → has_user room nick ≡ true → IsOwnAt (after room (Rename nick new)).users (key new)
  unfolding after
  new_is_own room nick new own there = by (row room.users (key nick)) refl
    where
      by : (o : Option User) → row room.users (key nick) ≡ o
          → IsOwnAt (moved (key nick) (key new) (with_nick new) room.users) (key new)
      by None none = absurd (cc (sym (ap is_some none) ∙ there))
      by (Some one) is = λ user now.
          ap (is_home t)
          (sym (same_Some (with_nick new one) user
          (sym (row-moved (key nick) (key new) (with_nick new) room.users one is (key new)
          ∙ ap (λ b. cond b (Some (with_nick new one)) (cond (same_fold (key new) (key nick)) None
          (row room.users (key new)))) (same_fold-refl (key new)))
          ∙ now)))
          ∙ own one is

  -- ---- each client of this server, if there is a user of its nickname, is of this server

  module _ (stays : ℕ → Bool) where
    abbrev pub AreOwnUsers : Clients → Table User → Type 0
    AreOwnUsers clients users = (q : ℕ) (nick : List ℕ) → stays q ≡ true
        → get clients q ≡ Some (Registered nick) → IsOwnAt users (key nick)

    renamed_own : (machine : RoomMachine) (nick new : List ℕ)
        → AreOwnUsers machine.clients machine.room.users → IsOwnStep machine.room (Rename nick new)
        → AreOwnUsers (clients_after (Rename nick new) machine.clients)
        (after machine.room (Rename nick new)).users
    renamed_own machine nick new own step q name here is =
        by (get machine.clients q) refl
        (sym (get-each (renamed_in nick new) machine.clients q) ∙ is)
      where
        by_name : (was : List ℕ) → get machine.clients q ≡ Some (Registered was) → (b : Bool)
            → Some (if b then Registered new else Registered was) ≡ Some (Registered name)
            → IsOwnAt (after machine.room (Rename nick new)).users (key name)
        by_name was there true now = λ user at.
            new_is_own machine.room nick new step.own
            (first_so (has_user machine.room nick) true step.possible.users_there) user
            (ap (λ n. row (after machine.room (Rename nick new)).users (key n)) (cc now) ∙ at)
        by_name was there false now =
            own_after machine.room (Rename nick new) (key name) step.own
            (own q name here (there ∙ now))

        by : (o : Option Client) → get machine.clients q ≡ o
            → option_map (renamed_in nick new) o ≡ Some (Registered name)
            → IsOwnAt (after machine.room (Rename nick new)).users (key name)
        by None there now = absurd (cc now)
        by (Some (Registering pending)) there now = absurd (cc now)
        by (Some (Registered was)) there now = by_name was there (folded.same was nick) now

    kept_own : (machine : RoomMachine) (effect : Effect)
        → AreOwnUsers machine.clients machine.room.users → IsOwnDoing machine.room effect
        → AreOwnUsers machine.clients (after machine.room effect).users
    kept_own machine effect own does q name here is =
        own_after machine.room effect (key name) does (own q name here is)

    own_users_after : (machine : RoomMachine) (effect : Effect)
        → AreOwnUsers machine.clients machine.room.users → IsOwnStep machine.room effect
        → AreOwnUsers (clients_after effect machine.clients) (after machine.room effect).users
    own_users_after machine (Rename nick new) own step = renamed_own machine nick new own step
    own_users_after machine effect own step = kept_own machine effect own step.own

    -- what holds of the room machine of this server's part: these servers' users are in it
    pub record IsHomeRoom (knows : Name → Bool) (machine : RoomMachine) : Type 0 where
      pub well : IsWellFormed machine.room
      pub at_known : HomesPass knows machine.room
      pub own : AreOwnUsers machine.clients machine.room.users

    new_known : (knows : Name → Bool) (room : Room) (effect : Effect) → knows t ≡ true
        → IsOwnDoing room effect → NewPasses knows effect
    new_known knows room (AddUser user) here own =
        ap knows ((bytes_decides user.home t).0 own) ∙ here
    new_known knows room effect here own = tt

    pub home_room_after : (knows : Name → Bool) (machine : RoomMachine) (effect : Effect)
        → knows t ≡ true → IsHomeRoom knows machine → IsOwnStep machine.room effect
        → IsHomeRoom knows (machine_after machine effect)
    home_room_after knows machine effect here is step = record {
      well = after_is_well_formed machine.room effect is.well step.possible;
      at_known = pass_after knows machine.room effect is.at_known
          (new_known knows machine.room effect here step.own);
      own = own_users_after machine effect is.own step;
    }

  -- ---- what one user of this server does

  own_doing : (me : User) (room : Room) (effect : Effect) → IsDoneBy me effect
      → IsOwnAt room.users (key me.nick) → IsOwnDoing room effect
  own_doing me room (AddUser user) done own = absurd (cc done)
  own_doing me room (Rename nick new) done own = λ user is.
      own user (ap (λ n. row room.users (key n)) (sym (same_Some nick me.nick done)) ∙ is)
  own_doing me room effect done own = tt

  pub own_in_turn : (me : User) (room : Room) (effects : List Effect)
      → IsOwnAt room.users (key me.nick) → EachInTurn IsPossible room effects
      → AllByRecursion (IsDoneBy me) effects → EachInTurn IsOwnStep room effects
  own_in_turn me room [] own possible done = tt
  own_in_turn me room (effect ∷ effects) own possible done =
      let does = own_doing me room effect done.0 own in
      record {
        now = record { possible = possible.now; own = does };
        later = own_in_turn me (after room effect) effects
            (own_after room effect (key me.nick) does own) possible.later done.1;
      }
