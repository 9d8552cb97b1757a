-- What a client's line is decided to say, its own user says: while that user is there, the client
-- is registered under its nickname.
use Rattle.std.proofs.Common.{◌≡◌, ℕ, Bool, true, false, cond, Option, Some, None, List, []}
use Rattle.std.proofs.Common.{◌∷◌, refl, sym, ◌∙◌, ap, subst, option_map, is_some, if◌then◌else◌}
use Rattle.std.specs.List.{AllByRecursion, list_all}
use Rattle.std.specs.Option.{option_map_or}
use Rattle.std.specs.Cmp.{first_so}
use Rattle.std.proofs.Math.Bool.{false≢true}
use Rattle.std.proofs.lemmas.Option.{same_Some}
use Rattle.irc_names.specs.Lemmas.PlainFacts.{is_some-map}
use Rattle.irc_line.specs.Messages.{Parsed}
use Rattle.irc_names.specs.Fold.{key}
use Rattle.irc_names.specs.Tables.{row}
use Rattle.irc_names.specs.TableLaws.{same_fold, same_fold-refl, one_fold, row-alter, row-moved}
use Rattle.irc_users.specs.declared.user.User.{User}
use Rattle.irc_users.specs.declared.user_change.UserChange.{UserChange}
use Rattle.irc_users.specs.UserTable.{is_home, with_nick, with_change}
use Rattle.irc_routes.specs.Place.{Place}
use Rattle.irc_room.specs.effect.Effect.{Effect}
use Rattle.irc_room.specs.effect.Effect.TheVariants.{AddUser, Rename, Quit}
use Rattle.irc_room.specs.effect.Effect.TheVariants.{Say, ChangeUser}
use Rattle.irc_room.specs.Room.{Room}
use Rattle.irc_room.specs.Effects.{IsPossible, has_user, target_users}
use Rattle.irc_room.specs.After.{after}
use Rattle.irc_acts.specs.declared.act.Act.{Act}
use Rattle.irc_acts.specs.declared.act.Act.TheVariants.{Answer, Raw, Do}
use Rattle.irc_acts.specs.Acts.{effects_among}
use Rattle.irc_commands.specs.declared.pending.Pending.{Pending}
use Rattle.irc_commands.specs.Comings.{RegisteredIsAdded, UnregisteredChangesNothing}
use Rattle.irc_commands.specs.Decide.{decide}
use Rattle.irc_commands.specs.Doers.{DecidedByItself, IsDoneBy}
use Rattle.irc_commands.specs.Register.{register, Registered as Given}
use Rattle.irc_stage.specs.declared.clients.Client.TheVariants.{Registered}
use Rattle.irc_stage.specs.RoomMachine.{RoomMachine, client_of}
use Rattle.irc_stage.specs.Handle.{machine_after, renamed_in}
use Rattle.irc_stage.specs.Matched.{IsMatched}
use Rattle.irc_stage.specs.Loops.Parts.{AreFit, IsRegisteredAs}
use Rattle.irc_stage.specs.Loops.Speaking.{AreSpoken, IsSaidByClient}
use Rattle.irc_stage.specs.Lemmas.Numbers.{get-each}
use Rattle.irc_stage.specs.Lemmas.Matching.{named_is, same_by_key, still_so}

module _ (conn : ℕ) (me : User) where
  -- while there is a user of the nickname, the client is registered under it
  abbrev pub Follows : RoomMachine → Type 0
  Follows machine =
      has_user machine.room me.nick ≡ true → IsRegisteredAs (key me.nick) (client_of machine conn)

  its_own : (nick : List ℕ) → nick ≡ me.nick → same_fold (key me.nick) (key nick) ≡ true
  its_own nick is = ap (λ n. same_fold (key me.nick) (key n)) is ∙ same_fold-refl (key me.nick)

  follows_renamed : (machine : RoomMachine) (nick new : List ℕ)
      → Follows machine → has_user machine.room nick ≡ true → nick ≡ me.nick
      → Follows (machine_after machine (Rename nick new))
  unfolding after
  follows_renamed machine nick new follows there is =
      by_row (row machine.room.users (key nick)) refl there
    where
      named_now : key me.nick ≡ key new
          → IsRegisteredAs (key me.nick) (client_of (machine_after machine (Rename nick new)) conn)
      named_now one =
          named_is (key me.nick) (client_of machine conn)
          (follows (ap (has_user machine.room) (sym is) ∙ there)) (λ name client named.
          subst (IsRegisteredAs (key me.nick))
          (sym (get-each (renamed_in nick new) machine.clients conn
          ∙ ap (option_map (renamed_in nick new)) client
          ∙ ap (λ b. Some (if b then Registered new else Registered name))
          (same_by_key name nick (named ∙ ap key (sym is)))))
          (sym one))

      by_fold : (user : User) (b : Bool) → same_fold (key me.nick) (key new) ≡ b → is_some
          (cond b (Some (with_nick new user)) (cond (same_fold (key me.nick) (key nick)) None
          (row machine.room.users (key me.nick)))) ≡ true
          → IsRegisteredAs (key me.nick) (client_of (machine_after machine (Rename nick new)) conn)
      by_fold user true one some = named_now (one_fold (key me.nick) (key new) one)
      by_fold user false two some =
          absurd (false≢true
          (sym (ap (λ b. is_some (cond b None (row machine.room.users (key me.nick))))
          (its_own nick is)) ∙ some))

      by_row : (found : Option User) → row machine.room.users (key nick) ≡ found
          → is_some found ≡ true → Follows (machine_after machine (Rename nick new))
      by_row None at some = absurd (cc some)
      by_row (Some user) at some = λ there_now.
          by_fold user (same_fold (key me.nick) (key new)) refl
          (ap is_some (sym (row-moved (key nick) (key new)
          (with_nick new) machine.room.users user at (key me.nick))) ∙ there_now)

  follows_quit : (machine : RoomMachine) (nick text : List ℕ) → nick ≡ me.nick
      → Follows (machine_after machine (Quit nick text))
  unfolding after
  follows_quit machine nick text is = λ there_now.
      absurd (false≢true
      (sym (ap (λ b. is_some (cond b None (row machine.room.users (key me.nick))))
      (its_own nick is))
      ∙ ap is_some (sym (row-alter (key nick) (λ _. None) machine.room.users (key me.nick)))
      ∙ there_now))

  follows_mode : (machine : RoomMachine) (nick : List ℕ) (change : UserChange) → Follows machine
      → nick ≡ me.nick → Follows (machine_after machine (ChangeUser nick change))
  unfolding after
  follows_mode machine nick change follows is = λ there_now.
      follows
      (ap (has_user machine.room) (sym is)
      ∙ sym (is_some-map (with_change change) (row machine.room.users (key nick)))
      ∙ ap (λ b. is_some (cond b (option_map (with_change change) (row machine.room.users
      (key nick))) (row machine.room.users (key me.nick)))) (sym (its_own nick is))
      ∙ ap is_some (sym (row-alter (key nick)
      (option_map (with_change change)) machine.room.users (key me.nick)))
      ∙ there_now)

  follows_on : (machine : RoomMachine) (effect : Effect) → Follows machine
      → IsPossible machine.room effect → IsDoneBy me effect → Follows (machine_after machine effect)
  unfolding after
  follows_on machine (AddUser user) follows possible is = absurd (cc is)
  follows_on machine (Rename nick new) follows possible is =
      follows_renamed machine nick new follows (first_so
      (has_user machine.room nick) true possible.users_there) (same_Some nick me.nick is)
  follows_on machine (Quit nick text) follows possible is =
      follows_quit machine nick text (same_Some nick me.nick is)
  follows_on machine (ChangeUser nick change) follows possible is =
      follows_mode machine nick change follows (same_Some nick me.nick is)
  follows_on machine other follows possible is = follows

  said_by_it : (machine : RoomMachine) (effect : Effect) → Follows machine
      → IsPossible machine.room effect → IsDoneBy me effect → IsSaidByClient conn machine effect
  said_by_it machine (Say by notice to text) follows possible is =
      let by_is : by ≡ me.nick = same_Some by me.nick is in
      subst (λ n. IsRegisteredAs (key n) (client_of machine conn)) (sym by_is)
      (follows (ap (has_user machine.room) (sym by_is) ∙ first_so (has_user machine.room by)
      (list_all (has_user machine.room) (target_users to)) possible.users_there))
  said_by_it machine other follows possible is = tt

  spoken_in_turn : (machine : RoomMachine) (acts : List Act) → Follows machine → AreFit machine acts
      → AllByRecursion (IsDoneBy me) (effects_among acts) → AreSpoken conn machine acts
  spoken_in_turn machine [] follows fit done = tt
  spoken_in_turn machine (Answer reply ∷ acts) follows fit done =
      spoken_in_turn machine acts follows fit done
  spoken_in_turn machine (Raw line ∷ acts) follows fit done =
      spoken_in_turn machine acts follows fit done
  spoken_in_turn machine (Do effect ∷ acts) follows fit done = record {
    now = said_by_it machine effect follows fit.now.possible done.0;
    later = spoken_in_turn (machine_after machine effect) acts
        (follows_on machine effect follows fit.now.possible done.0) fit.later done.1;
  }

-- a line of a user

pub decided_spoken : DecidedByItself → (machine : RoomMachine) → IsMatched machine → (conn : ℕ)
    (nick : List ℕ) → client_of machine conn ≡ Some (Registered nick) → (message : Parsed)
    (acts : List Act) → acts ≡ (decide machine.room machine.place nick message).steps
    → AreFit machine acts → AreSpoken conn machine acts
decided_spoken itself machine matched conn nick mine message acts are fit =
    by_row (row machine.room.users (key nick)) refl
  where
    by_row : (found : Option User) → row machine.room.users (key nick) ≡ found
        → AreSpoken conn machine acts
    by_row None there =
        let here = matched.registered_is_user conn nick mine in
        let nobody = ap (λ o. option_map_or (is_home machine.place.name) o false) there in absurd cc
    by_row (Some me) there =
        spoken_in_turn conn me machine acts
        (λ still. subst (IsRegisteredAs (key me.nick)) (sym mine)
        (ap key (sym (matched.spelled conn nick me mine there))))
        fit
        (subst (λ (l : List Act). AllByRecursion (IsDoneBy me) (effects_among l)) (sym are)
        (itself machine.room machine.place nick message me there))

-- a line before registration: nothing is said

pub registering_spoken : RegisteredIsAdded → UnregisteredChangesNothing
    → (room : Room) (place : Place) (pending : Pending) (message : Parsed) (given : Given)
    → given ≡ register room place pending message → (conn : ℕ) (machine : RoomMachine)
    → AreSpoken conn machine given.steps
registering_spoken added unchanging room place pending message given given_is conn machine =
    subst (λ (g : Given). AreSpoken conn machine g.steps) (sym given_is)
    (by (register room place pending message).registered refl)
  where
    by : (b : Bool) → (register room place pending message).registered ≡ b
        → AreSpoken conn machine (register room place pending message).steps
    by true is =
        let adds = added room place pending message is in
        subst (AreSpoken conn machine) (sym adds.steps_are) (record {
          now = tt;
          later = still_so (IsSaidByClient conn)
              (machine_after machine (AddUser adds.user)) adds.behind adds.no_more;
        })
    by false is = still_so (IsSaidByClient conn) machine (register room place pending message).steps
        (unchanging room place pending message is)
