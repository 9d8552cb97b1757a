-- What a client does, as effects in turn: each of them is a user's of the client's own server, and
-- can be done and told when its turn comes. The server decides on the same effects as the room
-- machine of its part.
use Rattle.std.proofs.Common.{◌≡◌, ℕ, Bool, true, false, Option, Some, None, Ok, Err, List, [], ◌∷◌}
use Rattle.std.proofs.Common.{refl, sym, ◌∙◌, ap, subst, option_map, arith}
use Rattle.std.specs.Prelude.{⊤}
use Rattle.std.specs.Cmp.Lexicographic.{bytes_decides}
use Rattle.std.specs.FinMap.{get}
use Rattle.std.specs.List.{list_any, AllByRecursion}
use Rattle.std.specs.Option.{option_map_or}
use Rattle.std.proofs.lemmas.Option.{same_Some}
use Rattle.irc_line.specs.Carried.{AreLineWords}
use Rattle.irc_line.specs.Laws.{WordsAreOfTheLine}
use Rattle.irc_line.specs.Messages.{Parsed}
use Rattle.irc_names.specs.Fold.{key}
use Rattle.irc_names.specs.Names.{IsServer}
use Rattle.irc_names.specs.Tables.{row}
use Rattle.irc_users.specs.declared.user.User.{User}
use Rattle.irc_users.specs.UserTable.{is_home}
use Rattle.irc_room.specs.effect.Effect.{Effect}
use Rattle.irc_room.specs.effect.Effect.TheVariants.{AddUser, Quit}
use Rattle.irc_room.specs.After.{after}
use Rattle.irc_room.specs.Effects.{is_idle, doer_of}
use Rattle.irc_room.specs.InTurn.{EachInTurn}
use Rattle.irc_room.specs.Limits.{IsCarriedText, IsWithinLimits}
use Rattle.irc_room.specs.Readers.{home_under}
use Rattle.irc_room.specs.Room.{Room}
use Rattle.irc_room.specs.Sendable.{IsSendable}
use Rattle.irc_acts.specs.declared.act.Act.{Act}
use Rattle.irc_acts.specs.declared.act.Act.TheVariants.{Do}
use Rattle.irc_acts.specs.Acts.{effects_among}
use Rattle.irc_acts.specs.Doing.{DoesSomething}
use Rattle.irc_acts.specs.Possible.{ArePossible}
use Rattle.irc_acts.specs.Sendable.{AreSendable}
use Rattle.irc_commands.specs.declared.pending.Pending.{Pending}
use Rattle.irc_commands.specs.Comings.{AddsFirst, is_effect}
use Rattle.irc_commands.specs.Decide.{decide}
use Rattle.irc_commands.specs.Decisions.{Decided}
use Rattle.irc_commands.specs.Doers.{IsDoneBy}
use Rattle.irc_commands.specs.Doing.{DecidedDoes}
use Rattle.irc_commands.specs.Register.{register, Registered as Given}
use Rattle.irc_commands.specs.Sendable.{DecidedIsSendable, IsPendingWithin, RegisteringIsSendable}
use Rattle.irc_relay.specs.Links.{Name}
use Rattle.irc_stage.specs.declared.clients.Client.{Client}
use Rattle.irc_stage.specs.declared.clients.Client.TheVariants.{Registering, Registered}
use Rattle.irc_stage.specs.Handle.{ClientEvent, connects, says, goes, lost_text, user_of}
use Rattle.irc_stage.specs.RoomMachine.{RoomMachine}
use Rattle.irc_stage.specs.View.{View, machine_of}
use Rattle.irc_stage.specs.Lemmas.MatchedEvents.{quit_possible}
use Rattle.irc_world.specs.Bounds.{effects_at, effects_left, effects_of_user, effects_said}
use Rattle.irc_items.proofs.Client.Due.{IsReadOfLine, client_in}
use Rattle.irc_items.proofs.Home.Users.{IsOwnAt, IsOwnStep, own_after, own_in_turn}
use Rattle.irc_items.proofs.Home.Events.{AreDecisionLaws, IsHomeOf, client_is, decision_is}
use Rattle.irc_items.proofs.Home.Events.{no_effects, registering_is, same_user, users_are}

-- what is known of decisions
pub record AreSpokenLaws : Type 0 where
  pub decisions : AreDecisionLaws
  pub does : DecidedDoes
  pub decided_sendable : DecidedIsSendable
  pub registering_sendable : RegisteringIsSendable
  pub words : WordsAreOfTheLine

-- an effect of a user of this server, which can be told
pub record IsOwnTold (t : Name) (room : Room) (effect : Effect) : Type 0 where
  pub step : IsOwnStep t room effect
  pub busy : is_idle room effect ≡ false
  pub sendable : IsSendable room effect
  pub doer : (nick : List ℕ) (home : Name) → doer_of effect ≡ Some nick
      → home_under room (key nick) ≡ Some home → home ≡ t

-- a line that was read has neither NUL, CR nor LF
abbrev pub IsSaidWell : ClientEvent → Type 0
IsSaidWell (says conn read) = IsReadOfLine read
IsSaidWell other = ⊤

lost_carried : IsCarriedText lost_text
lost_carried = record { fits = omega arith; carried = refl }

module _ (t : Name) where
  own_home : (room : Room) (fold : List ℕ) → IsOwnAt t room.users fold → (home : Name)
      → home_under room fold ≡ Some home → home ≡ t
  own_home room fold own home is = by (row room.users fold) refl is
    where
      by : (o : Option User) → row room.users fold ≡ o
          → option_map (λ (u : User). u.home) o ≡ Some home → home ≡ t
      by None there none = absurd (cc none)
      by (Some user) there some =
          sym (same_Some user.home home some) ∙ (bytes_decides user.home t).0 (own user there)

  -- ---- what one user of this server does

  steps_told : (me : User) (room : Room) (effects : List Effect)
      → IsOwnAt t room.users (key me.nick) → EachInTurn (IsOwnStep t) room effects
      → EachInTurn DoesSomething room effects → EachInTurn IsSendable room effects
      → AllByRecursion (IsDoneBy me) effects → EachInTurn (IsOwnTold t) room effects
  steps_told me room [] own steps does sendable done = tt
  steps_told me room (effect ∷ effects) own steps does sendable done = record {
    now = record {
      step = steps.now;
      busy = does.now;
      sendable = sendable.now;
      doer = λ nick home doer is.
          own_home room (key me.nick) own home (ap (λ n. home_under room (key n))
          (sym (same_Some nick me.nick (sym doer ∙ done.0))) ∙ is);
    };
    later = steps_told me (after room effect) effects (own_after t room effect
        (key me.nick) steps.now.own own) steps.later does.later sendable.later done.1;
  }

  module _ (laws : AreSpokenLaws) (stays : ℕ → Bool) (knows : Name → Bool) (view : View)
      (machine : RoomMachine)
      (home : IsHomeOf t stays knows view machine) (conn : ℕ) (mine : stays conn ≡ true) where
    decided : AreDecisionLaws
    decided = laws.decisions

    stored : (nick : List ℕ) (user : User) → row machine.room.users (key nick) ≡ Some user
        → row machine.room.users (key user.nick) ≡ Some user
    stored nick user there =
        ap (row machine.room.users) (home.room.well.users_named (key nick) user there) ∙ there

    -- ---- the server decides on the same

    users_effects : (message : Parsed) (nick : List ℕ) → get machine.clients conn
        ≡ Some (Registered nick) → (o : Option User) → row machine.room.users (key nick) ≡ o
        → effects_of_user (machine_of view) message o ≡ effects_of_user machine message o
    users_effects message nick is None there = refl
    users_effects message nick is (Some user) there =
        ap (λ (d : Decided). effects_among d.steps)
        (decision_is decided t stays knows view machine home conn mine user message
        (stored nick user there) (home.room.own conn nick mine is user there))

    said_effects : (message : Parsed) (o : Option Client) → get machine.clients conn ≡ o
        → effects_said (machine_of view) message o ≡ effects_said machine message o
    said_effects message None is = refl
    said_effects message (Some (Registering pending)) is =
        ap (λ (g : Given). effects_among g.steps)
        (registering_is decided t stays knows view machine home conn mine pending message)
    said_effects message (Some (Registered nick)) is =
        ap (λ users. effects_of_user (machine_of view) message (row users (key nick)))
        (users_are decided t stays knows view machine home conn mine)
        ∙ users_effects message nick is (row machine.room.users (key nick)) refl

    -- ---- its effects can be told

    module _ (named : IsServer t) (within : IsWithinLimits machine.room) where
      abbrev AreTold : List Effect → Type 0
      AreTold effects = EachInTurn (IsOwnTold t) machine.room effects

      -- ---- a user who is there, and is of this server

      module _ (user : User) (there : row machine.room.users (key user.nick) ≡ Some user)
          (own : is_home t user ≡ true) where
        own_there : IsOwnAt t machine.room.users (key user.nick)
        own_there other is = ap (λ o. option_map_or (is_home t) o true) (sym is ∙ there) ∙ own

        decided_told : (bytes : List ℕ) (message : Parsed) → AreLineWords bytes message
            → AreTold (effects_among (decide machine.room machine.place user.nick message).steps)
        decided_told bytes message words =
            let effects =
            effects_among (decide machine.room machine.place user.nick message).steps in
            let done = decided.by_itself machine.room machine.place user.nick message user there in
            steps_told user machine.room effects own_there
            (own_in_turn t user machine.room effects own_there (decided.decided_possible
            machine.room machine.place user.nick message home.room.well) done)
            (laws.does machine.room machine.place user.nick message home.room.well)
            (laws.decided_sendable machine.room machine.place user.nick bytes message home.room.well
            within words) done

        quit_told : (client : Option Client) → user_of machine.room client ≡ Some user.nick
            → AreTold (Quit user.nick lost_text ∷ [])
        quit_told client is = record {
          now = record {
            step = record {
              possible = quit_possible machine.room home.room.well client user.nick
                  lost_text is;
              own = tt;
            };
            busy = refl;
            sendable = record {
              nick_stored = ap (option_map (λ (u : User). u.nick)) there;
              text_within = lost_carried;
            };
            doer = λ nick at doer under.
                own_home machine.room (key user.nick) own_there at
                (ap (λ n. home_under machine.room (key n)) (same_Some user.nick nick doer) ∙ under);
          };
          later = tt;
        }

      -- ---- a line before registration

      module _ (given : Given) (possible : ArePossible machine.room given.steps)
          (sendable : AreSendable machine.room given.steps)
          (added : given.registered ≡ true → AddsFirst machine.place given.pending.nick given.steps)
          (unchanging : given.registered ≡ false → list_any is_effect given.steps ≡ false) where
        first_told : (user : User) (behind : List Act) → user.home ≡ machine.place.name
            → list_any is_effect behind ≡ false → ArePossible machine.room
            (Do (AddUser user) ∷ behind) → AreSendable machine.room (Do (AddUser user) ∷ behind)
            → AreTold (effects_among (Do (AddUser user) ∷ behind))
        first_told user behind at_home none can sent = record {
          now = record {
            step = record {
              possible = can.now;
              own = (bytes_decides user.home t).1 (at_home ∙ home.named);
            };
            busy = refl;
            sendable = sent.now;
            doer = λ nick at doer under. absurd (cc doer);
          };
          later = subst (EachInTurn (IsOwnTold t) _) (sym (no_effects behind none)) tt;
        }

        given_told : AreTold (effects_among given.steps)
        given_told = by given.registered refl
          where
            by : (b : Bool) → given.registered ≡ b → AreTold (effects_among given.steps)
            by true is =
                let first = added is in
                subst (λ acts. AreTold (effects_among acts)) (sym first.steps_are)
                (first_told first.user first.behind first.is_home first.no_more
                (subst (ArePossible machine.room) first.steps_are possible)
                (subst (AreSendable machine.room) first.steps_are sendable))
            by false is = subst AreTold (sym (no_effects given.steps (unchanging is))) tt

      -- ---- whatever it does

      module _ (given_within : (pending : Pending)
          → get machine.clients conn ≡ Some (Registering pending) → IsPendingWithin pending) where
        said_told : (bytes : List ℕ) (message : Parsed) → AreLineWords bytes message
            → (o : Option Client) → get machine.clients conn ≡ o
            → AreTold (effects_said machine message o)
        said_told bytes message words None is = tt
        said_told bytes message words (Some (Registering pending)) is =
            given_told (register machine.room machine.place pending message)
            (decided.registering_possible machine.room machine.place pending message home.room.well)
            (laws.registering_sendable machine.room machine.place pending bytes message
            (given_within pending is)
            (subst IsServer (sym home.named) named) words).1
            (decided.added machine.room machine.place pending message)
            (decided.unchanging machine.room machine.place pending message)
        said_told bytes message words (Some (Registered nick)) is =
            by (row machine.room.users (key nick)) refl
          where
            by : (o : Option User) → row machine.room.users (key nick) ≡ o
                → AreTold (effects_of_user machine message o)
            by None there = tt
            by (Some user) there = decided_told user (stored nick user there)
                (home.room.own conn nick mine is user there) bytes message words

        left_told : (o : Option Client) → get machine.clients conn ≡ o
            → AreTold (effects_left (user_of machine.room o))
        left_told None is = tt
        left_told (Some (Registering pending)) is = tt
        left_told (Some (Registered nick)) is = by (row machine.room.users (key nick)) refl
          where
            by : (o : Option User) → row machine.room.users (key nick) ≡ o
                → AreTold (effects_left (option_map (λ (user : User). user.nick) o))
            by None there = tt
            by (Some user) there =
                quit_told user (stored nick user there) (home.room.own conn nick mine is user there)
                (Some (Registered nick))
                (ap (option_map (λ (u : User). u.nick)) there)

-- the client that does something may be one that is about to register
pub record IsClientWithin (machine : RoomMachine) (conn : ℕ) : Type 0 where
  pub room : IsWithinLimits machine.room
  pub given : (pending : Pending) → get machine.clients conn ≡ Some (Registering pending)
      → IsPendingWithin pending

-- each effect is one of this server's users, and can be told
pub effects_told : AreSpokenLaws → (t : Name) (stays : ℕ → Bool) (knows : Name → Bool)
    (view : View) (machine : RoomMachine) → IsHomeOf t stays knows view machine
    → IsServer t → (client_event : ClientEvent) → IsClientWithin machine (client_in client_event)
    → stays (client_in client_event) ≡ true → IsSaidWell client_event
    → EachInTurn (IsOwnTold t) machine.room (effects_at machine client_event)
effects_told laws t stays knows view machine home named (connects conn host) within mine well = tt
effects_told laws t stays knows view machine home named (goes conn) within mine well =
    left_told t laws stays knows view machine home conn mine named within.room within.given
    (get machine.clients conn) refl
effects_told laws t stays knows view machine home named (says conn (Err fault)) within mine well =
    tt
effects_told laws t stays knows view machine home named (says conn (Ok message)) within mine well =
    said_told t laws stays knows view machine home conn mine named within.room within.given
    well.bytes message
    (laws.words well.bytes message well.carried (sym well.is_read)) (get machine.clients conn) refl

-- the server itself decides on the same effects
pub same_effects : AreSpokenLaws → (t : Name) (stays : ℕ → Bool) (knows : Name → Bool)
    (view : View) (machine : RoomMachine) → IsHomeOf t stays knows view machine
    → (client_event : ClientEvent) → stays (client_in client_event) ≡ true
    → effects_at (machine_of view) client_event ≡ effects_at machine client_event
same_effects laws t stays knows view machine home (connects conn host) mine = refl
same_effects laws t stays knows view machine home (says conn (Err fault)) mine = refl
same_effects laws t stays knows view machine home (says conn (Ok message)) mine =
    ap (effects_said (machine_of view) message)
    (client_is laws.decisions t stays knows view machine home conn mine)
    ∙ said_effects t laws stays knows view machine home conn mine message
    (get machine.clients conn) refl
same_effects laws t stays knows view machine home (goes conn) mine =
    ap (λ o. effects_left (user_of view.room o))
    (client_is laws.decisions t stays knows view machine home conn mine)
    ∙ ap effects_left (same_user laws.decisions t stays knows view machine home conn mine
    (get machine.clients conn))
