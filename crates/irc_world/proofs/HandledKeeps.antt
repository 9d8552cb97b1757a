-- What stays as it is whatever happens to a room machine: its place, that its room is well formed,
-- and who its clients can be.
use Rattle.std.proofs.Common.{◌≡◌, ℕ, Bool, true, false, cond, Option, Some, None, Ok, Err, List}
use Rattle.std.proofs.Common.{[], ◌∷◌, refl, sym, ◌∙◌, ap, subst, is_some, option_map}
use Rattle.std.specs.Prelude.{⊤}
use Rattle.std.specs.FinMap.{get}
use Rattle.irc_names.specs.Fold.{key}
use Rattle.irc_names.specs.Tables.{row}
use Rattle.irc_line.specs.Messages.{Parsed}
use Rattle.irc_users.specs.declared.user.User.{User}
use Rattle.irc_room.specs.effect.Effect.{Effect}
use Rattle.irc_room.specs.effect.Effect.TheVariants.{Rename, Quit}
use Rattle.irc_room.specs.Room.{IsWellFormed}
use Rattle.irc_room.specs.Effects.{IsPossible}
use Rattle.irc_room.specs.Lemmas.WellFormedLaw.{after_is_well_formed}
use Rattle.irc_acts.specs.declared.act.Act.{Act}
use Rattle.irc_acts.specs.declared.act.Act.TheVariants.{Answer, Raw, Do}
use Rattle.irc_acts.specs.Possible.{ArePossible}
use Rattle.irc_commands.specs.Decide.{decide}
use Rattle.irc_commands.specs.Register.{register}
use Rattle.irc_commands.specs.Possible.{DecidedIsPossible, RegisteringIsPossible}
use Rattle.irc_stage.specs.declared.clients.Client.{Client}
use Rattle.irc_stage.specs.declared.clients.Client.TheVariants.{Registering, Registered}
use Rattle.irc_stage.specs.RoomMachine.{Clients, RoomMachine, client_of, with_client}
use Rattle.irc_stage.specs.RoomMachine.{without_client}
use Rattle.irc_stage.specs.Handle.{ClientEvent, connects, says, goes, Handled, handled, renamed_in}
use Rattle.irc_stage.specs.Handle.{clients_after, with_effect, stepped, all_stepped, unchanged}
use Rattle.irc_stage.specs.Handle.{closing, client_after, fresh, user_decided, said_by, user_of}
use Rattle.irc_stage.specs.Handle.{quits, lost_text}
use Rattle.irc_stage.specs.Lemmas.Numbers.{same_number, one_number, get-with, get-without, get-each}
use Rattle.irc_stage.specs.Lemmas.MatchedEvents.{quit_possible}

-- a machine has the place that another had, a well-formed room, and clients that may be there
pub record Keeps (start : RoomMachine) (May : ℕ → Type 0) (now : RoomMachine) : Type 0 where
  pub place : now.place ≡ start.place
  pub well : IsWellFormed now.room
  pub clients : (conn : ℕ) → is_some (get now.clients conn) ≡ true → May conn

-- who connects may be there
abbrev pub Comes : (ℕ → Type 0) → ClientEvent → Type 0
Comes May (connects conn host) = May conn
Comes May (says conn read) = ⊤
Comes May (goes conn) = ⊤

mapped : (change : Client → Client) (o : Option Client) → is_some (option_map change o) ≡ is_some o
mapped change None = refl
mapped change (Some client) = refl

same_clients_there : (effect : Effect) (clients : Clients) (conn : ℕ)
    → is_some (get (clients_after effect clients) conn) ≡ is_some (get clients conn)
same_clients_there (Rename nick new) clients conn =
    ap is_some (get-each (renamed_in nick new) clients conn)
    ∙ mapped (renamed_in nick new) (get clients conn)
same_clients_there other clients conn = refl

was_there : (b : Bool) (o : Option Client) → is_some (cond b None o) ≡ true → is_some o ≡ true
was_there true o there = absurd (cc there)
was_there false o there = there

module _ (start : RoomMachine) (May : ℕ → Type 0) where
  effect_keeps : (effect : Effect) (before : Handled) → Keeps start May before.state
      → IsPossible before.state.room effect → Keeps start May (with_effect effect before).state
  effect_keeps effect before keeps possible = record {
    place = keeps.place;
    well = after_is_well_formed before.state.room effect keeps.well possible;
    clients = λ conn there. keeps.clients conn
        (sym (same_clients_there effect before.state.clients conn) ∙ there);
  }

  steps_keep : (conn : ℕ) (name : Option (List ℕ)) (acts : List Act) (before : Handled)
      → Keeps start May before.state → ArePossible before.state.room acts
      → Keeps start May (all_stepped conn name acts before).state
  steps_keep conn name [] before keeps possible = keeps
  steps_keep conn name (Answer reply ∷ acts) before keeps possible =
      steps_keep conn name acts (stepped conn name (Answer reply) before) keeps possible
  steps_keep conn name (Raw line ∷ acts) before keeps possible =
      steps_keep conn name acts (stepped conn name (Raw line) before) keeps possible
  steps_keep conn name (Do effect ∷ acts) before keeps possible =
      steps_keep conn name acts (with_effect effect before)
      (effect_keeps effect before keeps possible.now) possible.later

  leaving_keeps : (conn : ℕ) (machine : RoomMachine) → Keeps start May machine
      → Keeps start May (without_client machine conn)
  leaving_keeps conn machine keeps = record {
    place = keeps.place;
    well = keeps.well;
    clients = λ q there. keeps.clients q
        (was_there (same_number q conn) (get machine.clients q)
        (ap is_some (sym (get-without machine.clients conn q)) ∙ there));
  }

  coming_keeps : (conn : ℕ) (client : Client) (machine : RoomMachine) → May conn
      → Keeps start May machine → Keeps start May (with_client machine conn client)
  coming_keeps conn client machine may keeps = record {
    place = keeps.place;
    well = keeps.well;
    clients = λ q there. by q (same_number q conn) refl
        (ap is_some (sym (get-with machine.clients conn client q)) ∙ there);
  }
    where
      by : (q : ℕ) (b : Bool) → same_number q conn ≡ b
          → is_some (cond b (Some client) (get machine.clients q)) ≡ true → May q
      by q true one there = subst May (sym (one_number q conn one)) may
      by q false two there = keeps.clients q there

  close_keeps : (close : Bool) (conn : ℕ) (before : Handled) → Keeps start May before.state
      → Keeps start May (closing close conn before).state
  close_keeps true conn before keeps = leaving_keeps conn before.state keeps
  close_keeps false conn before keeps = keeps

  quits_keep : (nick : Option (List ℕ)) (before : Handled) → Keeps start May before.state
      → ((name : List ℕ) → nick ≡ Some name → IsPossible before.state.room (Quit name lost_text))
      → Keeps start May (quits nick before).state
  quits_keep None before keeps possible = keeps
  quits_keep (Some nick) before keeps possible =
      effect_keeps (Quit nick lost_text) before keeps (possible nick refl)

  module _ (decided_possible : DecidedIsPossible) (registering_possible : RegisteringIsPossible)
      (keeps : Keeps start May start) where
    user_keeps : (conn : ℕ) (o : Option User) (message : Parsed)
        → Keeps start May (user_decided start conn o message).state
    user_keeps conn None message = keeps
    user_keeps conn (Some user) message =
        close_keeps (decide start.room start.place user.nick message).close conn
        (all_stepped conn (Some user.nick) (decide start.room start.place user.nick message).steps
        (unchanged start))
        (steps_keep conn (Some user.nick) (decide start.room start.place user.nick message).steps
        (unchanged start) keeps
        (decided_possible start.room start.place user.nick message keeps.well))

    said_keeps : (conn : ℕ) (o : Option Client) (message : Parsed) → client_of start conn ≡ o
        → Keeps start May (said_by start conn o message).state
    said_keeps conn None message is = keeps
    said_keeps conn (Some (Registering pending)) message is =
        let given = register start.room start.place pending message in
        let now = with_client start conn (client_after given given.pending.nick) in
        close_keeps given.close conn
        (all_stepped conn given.pending.nick given.steps (unchanged now))
        (steps_keep conn given.pending.nick given.steps (unchanged now)
        (coming_keeps conn (client_after given given.pending.nick) start
        (keeps.clients conn (ap is_some is)) keeps)
        (registering_possible start.room start.place pending message keeps.well))
    said_keeps conn (Some (Registered nick)) message is =
        user_keeps conn (row start.room.users (key nick)) message

    pub handled_keeps : (client_event : ClientEvent) → Comes May client_event
        → Keeps start May (handled start client_event).state
    unfolding handled
    handled_keeps (connects conn host) may = coming_keeps conn (fresh host) start may keeps
    handled_keeps (says conn (Err fault)) may = keeps
    handled_keeps (says conn (Ok message)) may = said_keeps conn (client_of start conn) message refl
    handled_keeps (goes conn) may =
        quits_keep (user_of start.room (client_of start conn))
        (unchanged (without_client start conn)) (leaving_keeps conn start keeps)
        (λ nick is. quit_possible start.room keeps.well (client_of start conn) nick lost_text is)
