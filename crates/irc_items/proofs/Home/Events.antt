-- Whatever a client does, its server does what the room machine of its part does.
use Rattle.std.proofs.Common.{◌≡◌, ℕ, Bool, true, false, not, Option, Some, None, Ok, Err, List, []}
use Rattle.std.proofs.Common.{◌∷◌, refl, sym, ◌∙◌, ap, subst, is_some}
use Rattle.std.specs.FinMap.{get}
use Rattle.std.specs.List.{list_any}
use Rattle.std.specs.Option.{option_map, option_map_or}
use Rattle.std.specs.Cmp.Lexicographic.{bytes_decides}
use Rattle.std.proofs.lemmas.Option.{same_Some}
use Rattle.irc_line.specs.Messages.{Parsed}
use Rattle.irc_names.specs.Fold.{key}
use Rattle.irc_names.specs.Tables.{row}
use Rattle.irc_users.specs.declared.user.User.{User}
use Rattle.irc_users.specs.UserTable.{is_home}
use Rattle.irc_room.specs.effect.Effect.TheVariants.{AddUser, Quit}
use Rattle.irc_room.specs.InTurn.{EachInTurn}
use Rattle.irc_room.specs.Invitations.{of_home}
use Rattle.irc_room.specs.Room.{Room}
use Rattle.irc_room.specs.Lemmas.AlikeLaw.{home_is_alike}
use Rattle.irc_routes.specs.Known.{place_of}
use Rattle.irc_routes.specs.Place.{Place}
use Rattle.irc_acts.specs.declared.act.Act.{Act}
use Rattle.irc_acts.specs.declared.act.Act.TheVariants.{Answer, Raw, Do}
use Rattle.irc_acts.specs.Acts.{effects_among}
use Rattle.irc_acts.specs.Possible.{ArePossible}
use Rattle.irc_commands.specs.declared.pending.Pending.{Pending}
use Rattle.irc_commands.specs.AtHome.{DecidedAtHome, RegisteringAtHome}
use Rattle.irc_commands.specs.Comings.{AddsFirst, is_effect, RegisteredIsAdded}
use Rattle.irc_commands.specs.Comings.{UnregisteredChangesNothing}
use Rattle.irc_commands.specs.Decide.{decide}
use Rattle.irc_commands.specs.Decisions.{Decided}
use Rattle.irc_commands.specs.Doers.{DecidedByItself}
use Rattle.irc_commands.specs.Possible.{DecidedIsPossible, RegisteringIsPossible}
use Rattle.irc_commands.specs.Register.{register, Registered as Given}
use Rattle.irc_relay.specs.Links.{Name}
use Rattle.irc_stage.specs.declared.clients.Client.{Client}
use Rattle.irc_stage.specs.declared.clients.Client.TheVariants.{Registering, Registered}
use Rattle.irc_stage.specs.ClientTold.{client_told, decision_told, given_told, message_told}
use Rattle.irc_stage.specs.ClientTold.{quit_told, seated, unseated, user_told}
use Rattle.irc_stage.specs.EffectTold.{Served, in_silence}
use Rattle.irc_stage.specs.Handle.{Handled, ClientEvent, connects, says, goes, client_after}
use Rattle.irc_stage.specs.Handle.{decided}
use Rattle.irc_stage.specs.Handle.{fresh, handled, lost_text, pending_decided, quits, said_by}
use Rattle.irc_stage.specs.Handle.{unchanged, user_decided, user_of}
use Rattle.irc_stage.specs.RoomMachine.{RoomMachine, with_client, without_client}
use Rattle.irc_stage.specs.View.{View}
use Rattle.irc_stage.specs.Lemmas.MatchedEvents.{quit_possible}
use Rattle.irc_items.proofs.Home.Clients.{staying_there}
use Rattle.irc_items.proofs.Home.Users.{IsHomeRoom, IsOwnAt, IsOwnStep, own_in_turn}
use Rattle.irc_items.proofs.Home.Effects.{AreOneAt, KnowsWays, effect_so, view_in}
use Rattle.irc_items.proofs.Home.Steps.{begins_so, carried_so, seated_room, seated_view}
use Rattle.irc_items.proofs.Home.Steps.{unseated_room, unseated_view}
use Rattle.irc_items.proofs.Client.Due.{client_in}

-- what is known of decisions
pub record AreDecisionLaws : Type 0 where
  pub decided_at_home : DecidedAtHome
  pub registering_at_home : RegisteringAtHome
  pub decided_possible : DecidedIsPossible
  pub registering_possible : RegisteringIsPossible
  pub by_itself : DecidedByItself
  pub added : RegisteredIsAdded
  pub unchanging : UnregisteredChangesNothing

-- steps without an effect
pub no_effects : (acts : List Act) → list_any is_effect acts ≡ false → effects_among acts ≡ []
no_effects [] none = refl
no_effects (Answer reply ∷ acts) none = no_effects acts none
no_effects (Raw line ∷ acts) none = no_effects acts none
no_effects (Do effect ∷ acts) none = absurd (cc none)

not_both : (b : Bool) → b ≡ true → not b ≡ true → ⊥
not_both true one other = cc other
not_both false one other = cc one

-- the server as it is, and the room machine of its part
pub record IsHomeOf (t : Name) (stays : ℕ → Bool) (knows : Name → Bool) (view : View)
    (machine : RoomMachine) : Type 0 where
  pub same : view ≡ view_in t stays view machine
  pub place : place_of view.routes ≡ machine.place
  pub named : machine.place.name ≡ t
  pub here : knows t ≡ true
  pub ways : KnowsWays t stays view knows
  pub room : IsHomeRoom t stays knows machine

module _ (laws : AreDecisionLaws) (t : Name) (stays : ℕ → Bool) (knows : Name → Bool) (view : View)
    (machine : RoomMachine)
    (home : IsHomeOf t stays knows view machine) (conn : ℕ) (mine : stays conn ≡ true) where
  abbrev IsOne : Handled → Served → Type 0
  IsOne h v = AreOneAt t stays view h v

  room_is : view.room ≡ of_home t machine.room
  room_is = ap (λ (v : View). v.room) home.same

  name_is : view.routes.name ≡ machine.place.name
  name_is = ap (λ (p : Place). p.name) home.place

  pub users_are : view.room.users ≡ machine.room.users
  users_are = ap (λ (room : Room). room.users) room_is ∙ (home_is_alike t machine.room).users

  pub client_is : get view.clients conn ≡ get machine.clients conn
  client_is = ap (λ (v : View). get v.clients conn) home.same
      ∙ staying_there stays machine.clients conn mine

  -- ---- a line of a user

  module _ (user : User) (message : Parsed) (there : row machine.room.users (key user.nick)
      ≡ Some user) (own : is_home t user ≡ true) where
    pub decision_is : decide view.room (place_of view.routes) user.nick message
        ≡ decide machine.room machine.place user.nick message
    decision_is =
        (λ i. decide (room_is i) (home.place i) user.nick message)
        ∙ laws.decided_at_home t machine.room machine.place user.nick message home.room.well
        (ap (λ o. option_map_or (is_home t) o false) there ∙ own)

    own_there : IsOwnAt t machine.room.users (key user.nick)
    own_there other is = ap (λ o. option_map_or (is_home t) o true) (sym is ∙ there) ∙ own

    decided_so : IsOne (decided machine conn (Some user.nick)
        (decide machine.room machine.place user.nick message))
        (decision_told conn (Some user.nick)
        (decide view.room (place_of view.routes) user.nick message) (in_silence view))
    decided_so =
        subst (λ (d : Decided). IsOne (decided machine conn (Some user.nick)
        (decide machine.room machine.place user.nick message))
        (decision_told conn (Some user.nick) d (in_silence view))) (sym decision_is)
        (carried_so t stays view conn mine knows home.here home.ways
        (decide machine.room machine.place user.nick message).close (Some user.nick)
        (decide machine.room machine.place user.nick message).steps machine view home.same name_is
        home.room
        (own_in_turn t user machine.room
        (effects_among (decide machine.room machine.place user.nick message).steps) own_there
        (laws.decided_possible machine.room machine.place user.nick message home.room.well)
        (laws.by_itself machine.room machine.place user.nick message user there)))

  user_so : (nick : List ℕ) (message : Parsed) → get machine.clients conn ≡ Some (Registered nick)
      → (o : Option User) → row machine.room.users (key nick) ≡ o
      → IsOne (user_decided machine conn o message) (user_told view conn o message)
  user_so nick message registered None there = begins_so t stays view machine view home.same
  user_so nick message registered (Some user) there =
      decided_so user message
      (ap (row machine.room.users) (home.room.well.users_named (key nick) user there) ∙ there)
      (home.room.own conn nick mine registered user there)

  -- ---- a line before registration

  module _ (given : Given) (possible : ArePossible machine.room given.steps)
      (added : given.registered ≡ true → AddsFirst machine.place given.pending.nick given.steps)
      (unchanging : given.registered ≡ false → list_any is_effect given.steps ≡ false) where
    abbrev now : RoomMachine
    now = with_client machine conn (client_after given given.pending.nick)

    first_step : (user : User) (behind : List Act) → user.home ≡ machine.place.name
        → list_any is_effect behind ≡ false → ArePossible machine.room (Do (AddUser user) ∷ behind)
        → EachInTurn (IsOwnStep t) machine.room (effects_among (Do (AddUser user) ∷ behind))
    first_step user behind at_home none can = record {
      now =
          record { possible = can.now; own = (bytes_decides user.home t).1 (at_home ∙ home.named) };
      later = subst (EachInTurn (IsOwnStep t) _) (sym (no_effects behind none)) tt;
    }

    own_steps : (b : Bool) → given.registered ≡ b
        → EachInTurn (IsOwnStep t) machine.room (effects_among given.steps)
    own_steps true is =
        let first = added is in
        subst (λ acts. EachInTurn (IsOwnStep t) machine.room (effects_among acts))
        (sym first.steps_are)
        (first_step first.user first.behind first.is_home first.no_more
        (subst (ArePossible machine.room) first.steps_are possible))
    own_steps false is = subst (EachInTurn (IsOwnStep t) machine.room)
        (sym (no_effects given.steps (unchanging is))) tt

    -- nobody has the nickname yet
    nobody_yet : (user : User) (behind : List Act) → ArePossible machine.room
        (Do (AddUser user) ∷ behind) → IsOwnAt t machine.room.users (key user.nick)
    nobody_yet user behind can other there =
        absurd (not_both true refl (sym (ap (λ o. not (is_some o)) there) ∙ can.now.nick_free))

    seated_own : (nick : List ℕ) → client_after given given.pending.nick ≡ Registered nick
        → IsOwnAt t machine.room.users (key nick)
    seated_own nick is = by given.pending.nick refl given.registered refl is
      where
        by : (o : Option (List ℕ)) → given.pending.nick ≡ o → (b : Bool) → given.registered ≡ b
            → client_after (record {
              pending = given.pending;
              steps = given.steps;
              registered = b;
              close = given.close;
            }) o ≡ Registered nick → IsOwnAt t machine.room.users (key nick)
        by None its b registered after_it = absurd (cc after_it)
        by (Some name) its false registered after_it = absurd (cc after_it)
        by (Some name) its true registered after_it =
            let first = added registered in
            let named : name ≡ nick = cc after_it in
            subst (λ n. IsOwnAt t machine.room.users (key n))
            (same_Some first.user.nick name (sym first.is_nick ∙ its) ∙ named)
            (nobody_yet first.user first.behind
            (subst (ArePossible machine.room) first.steps_are possible))

    given_so : IsOne (pending_decided machine conn given) (given_told conn given view)
    given_so =
        carried_so t stays view conn mine knows home.here home.ways given.close given.pending.nick
        given.steps now
        (seated conn (client_after given given.pending.nick) view)
        (seated_view t stays view conn mine machine
        (client_after given given.pending.nick) view home.same) name_is
        (seated_room t stays view conn mine knows machine (client_after given given.pending.nick)
        seated_own home.room) (own_steps given.registered refl)

  pub registering_is : (pending : Pending) (message : Parsed) → register view.room
      (place_of view.routes) pending message ≡ register machine.room machine.place pending message
  registering_is pending message =
      (λ i. register (room_is i) (home.place i) pending message)
      ∙ laws.registering_at_home t machine.room machine.place pending message

  pending_so : (pending : Pending) (message : Parsed)
      → IsOne (pending_decided machine conn (register machine.room machine.place pending message))
      (given_told conn (register view.room (place_of view.routes) pending message) view)
  pending_so pending message =
      subst (λ (g : Given). IsOne (pending_decided machine conn
      (register machine.room machine.place pending message)) (given_told conn g view))
      (sym (registering_is pending message))
      (given_so (register machine.room machine.place pending message)
      (laws.registering_possible machine.room machine.place pending message home.room.well)
      (laws.added machine.room machine.place pending message)
      (laws.unchanging machine.room machine.place pending message))

  -- ---- whatever it says

  said_so : (message : Parsed) (o : Option Client) → get machine.clients conn ≡ o
      → IsOne (said_by machine conn o message) (message_told view conn o message)
  said_so message None there = begins_so t stays view machine view home.same
  said_so message (Some (Registering pending)) there = pending_so pending message
  said_so message (Some (Registered nick)) there =
      subst (λ users. IsOne (user_decided machine conn (row machine.room.users (key nick)) message)
      (user_told view conn (row users (key nick)) message))
      (sym users_are) (user_so nick message there (row machine.room.users (key nick)) refl)

  -- ---- and when it goes

  pub same_user : (o : Option Client) → user_of view.room o ≡ user_of machine.room o
  same_user None = refl
  same_user (Some (Registering pending)) = refl
  same_user (Some (Registered nick)) =
      ap (λ users. option_map (λ (user : User). user.nick) (row users (key nick))) users_are

  quit_so : (o : Option Client) (nick : Option (List ℕ)) → user_of machine.room o ≡ nick
      → IsOne (quits nick (unchanged (without_client machine conn)))
      (quit_told nick (in_silence (unseated conn view)))
  quit_so o None is = begins_so t stays view (without_client machine conn) (unseated conn view)
      (unseated_view t stays view conn mine machine view home.same)
  quit_so o (Some nick) is =
      effect_so t stays view knows home.ways (unchanged (without_client machine conn))
      (in_silence (unseated conn view)) (Quit nick lost_text)
      (unseated_room t stays view conn mine knows machine home.room)
      (record {
        possible = quit_possible machine.room home.room.well o nick lost_text is;
        own = tt;
      })
      (begins_so t stays view (without_client machine conn) (unseated conn view)
      (unseated_view t stays view conn mine machine view home.same))

  gone_so : (o other : Option Client) → other ≡ o
      → IsOne (quits (user_of machine.room o) (unchanged (without_client machine conn)))
      (quit_told (user_of view.room other) (in_silence (unseated conn view)))
  gone_so o other are =
      subst (λ nick. IsOne (quits (user_of machine.room o) (unchanged
      (without_client machine conn))) (quit_told nick (in_silence (unseated conn view))))
      (sym (ap (user_of view.room) are ∙ same_user o)) (quit_so o (user_of machine.room o) refl)

-- ---- so it is whatever happens

pub handled_so : AreDecisionLaws → (t : Name) (stays : ℕ → Bool) (knows : Name → Bool)
    (view : View) (machine : RoomMachine) → IsHomeOf t stays knows view machine
    → (client_event : ClientEvent) → stays (client_in client_event) ≡ true
    → AreOneAt t stays view (handled machine client_event) (client_told view client_event)
unfolding handled client_told
handled_so laws t stays knows view machine home (connects conn host) mine =
    begins_so t stays view (with_client machine conn (fresh host)) (seated conn (fresh host) view)
    (seated_view t stays view conn mine machine (fresh host) view home.same)
handled_so laws t stays knows view machine home (says conn (Err fault)) mine =
    begins_so t stays view machine view home.same
handled_so laws t stays knows view machine home (says conn (Ok message)) mine =
    subst (λ o. AreOneAt t stays view (said_by machine conn (get machine.clients conn) message)
    (message_told view conn o message))
    (sym (client_is laws t stays knows view machine home conn mine))
    (said_so laws t stays knows view machine home conn mine message (get machine.clients conn) refl)
handled_so laws t stays knows view machine home (goes conn) mine =
    gone_so laws t stays knows view machine home conn mine (get machine.clients conn)
    (get view.clients conn)
    (client_is laws t stays knows view machine home conn mine)
