-- What a client does is done as one room machine does it.
use Rattle.std.proofs.Common.{◌≡◌, ℕ, Bool, true, false, Option, Some, None, Ok, Err, List}
use Rattle.std.proofs.Common.{[], ◌∷◌, refl, sym, ◌∙◌, ap, append-nil, subst, option_map}
use Rattle.std.specs.List.{AllByRecursion, list_any}
use Rattle.std.specs.Option.{option_map_or}
use Rattle.irc_line.specs.Messages.{Parsed}
use Rattle.irc_names.specs.Fold.{key}
use Rattle.irc_names.specs.Tables.{row}
use Rattle.irc_numerics.specs.Replies.{reply_text}
use Rattle.irc_batch.specs.Batches.{end_of, line_to}
use Rattle.irc_users.specs.declared.user.User.{User}
use Rattle.irc_room.specs.effect.Effect.{Effect}
use Rattle.irc_room.specs.effect.Effect.TheVariants.{AddUser, Quit}
use Rattle.irc_room.specs.Effects.{IsPossible, doer_of}
use Rattle.irc_room.specs.Lemmas.AlikeLaw.{alike_stay_alike, alike_take_alike}
use Rattle.irc_room.specs.Room.{IsWellFormed}
use Rattle.irc_routes.specs.Known.{place_of}
use Rattle.irc_acts.specs.declared.act.Act.{Act}
use Rattle.irc_acts.specs.declared.act.Act.TheVariants.{Answer, Raw, Do}
use Rattle.irc_acts.specs.Acts.{effects_among}
use Rattle.irc_acts.specs.Possible.{ArePossible}
use Rattle.irc_commands.specs.declared.pending.Pending.{Pending}
use Rattle.irc_commands.specs.Comings.{is_effect, RegisteredIsAdded, UnregisteredChangesNothing}
use Rattle.irc_commands.specs.Decide.{decide}
use Rattle.irc_commands.specs.Doers.{DecidedByItself}
use Rattle.irc_commands.specs.Possible.{DecidedIsPossible, RegisteringIsPossible}
use Rattle.irc_commands.specs.Register.{register, Registered as Taken}
use Rattle.irc_stage.specs.declared.clients.Client.{Client}
use Rattle.irc_stage.specs.declared.clients.Client.TheVariants.{Registering, Registered}
use Rattle.irc_stage.specs.RoomMachine.{RoomMachine, client_of}
use Rattle.irc_stage.specs.Handle.{ClientEvent, connects, says, goes, client_after, fresh}
use Rattle.irc_stage.specs.Handle.{lost_text, machine_after, user_of}
use Rattle.irc_stage.specs.EffectTold.{Served, in_silence, view_after, with_sent}
use Rattle.irc_stage.specs.ClientTold.{client_told, closed_told, given_told, message_told}
use Rattle.irc_stage.specs.ClientTold.{quit_told, seated, step_told, steps_told, unseated}
use Rattle.irc_stage.specs.ClientTold.{user_told}
use Rattle.irc_stage.specs.Lemmas.MatchedEvents.{quit_possible}
use Rattle.irc_stage.specs.Lemmas.Twins.{AreTwins, are_its_twins, effect_twins}
use Rattle.irc_stage.specs.Loops.Parts.{AreInTurnAt}
use Rattle.irc_stage.specs.View.{View, machine_of}
use Rattle.irc_server.specs.Served.{of_client}
use Rattle.irc_own_order.specs.Doings.{an_answer, a_client, a_departure, a_closing}
use Rattle.irc_own_order.specs.OwnOrder.{an_event, giver_of, all_done_here, done_here}
use Rattle.irc_own_order.specs.OwnOrder.{effects_of_client, effects_of_line, effects_of_user}
use Rattle.irc_own_order.specs.Lemmas.InTurn.{nothing_between, one_between, IsBetweenBy}
use Rattle.irc_own_order.specs.Lemmas.InTurn.{quietly, then_by}
use Rattle.irc_own_order.specs.Lemmas.LinksDo.{told_by}

-- ---- the steps of a line

-- an effect can be done, and is done by this user
record IsOwnEffect (who : Option (List ℕ)) (machine : RoomMachine) (effect : Effect) : Type 0 where
  possible : IsPossible machine.room effect
  own : doer_of effect ≡ who

-- invitations that are not kept make none impossible
own_along : (who : Option (List ℕ)) (machine : RoomMachine) (view : View) (acts : List Act)
    → AreTwins machine (machine_of view) → ArePossible machine.room acts
    → AllByRecursion (λ effect. doer_of effect ≡ who) (effects_among acts)
    → AreInTurnAt (IsOwnEffect who) view acts
own_along who machine view [] twins can own = tt
own_along who machine view (Answer reply ∷ acts) twins can own =
    own_along who machine view acts twins can own
own_along who machine view (Raw line ∷ acts) twins can own =
    own_along who machine view acts twins can own
own_along who machine view (Do effect ∷ acts) twins can own = record {
  now = record {
    possible =
        (alike_take_alike machine.room view.room effect twins.room).possible.0 can.now;
    own = own.0;
  };
  later = own_along who (machine_after machine effect) (view_after view effect) acts
      (effect_twins alike_stay_alike machine view effect twins) can.later own.1;
}

own_all : (who : Option (List ℕ)) (view : View) (acts : List Act) → ArePossible view.room acts
    → AllByRecursion (λ effect. doer_of effect ≡ who) (effects_among acts)
    → AreInTurnAt (IsOwnEffect who) view acts
own_all who view acts can own =
    own_along who (machine_of view) view acts (are_its_twins (machine_of view)) can own

-- nobody does these effects, and they are done here
record ComesAlone (view : View) (effects : List Effect) : Type 0 where
  nobodys : AllByRecursion (λ effect. doer_of effect ≡ None) effects
  here : all_done_here view effects ≡ effects

no_effects : (acts : List Act) → list_any is_effect acts ≡ false → effects_among acts ≡ []
no_effects [] none = refl
no_effects (Answer reply ∷ acts) none = no_effects acts none
no_effects (Raw line ∷ acts) none = no_effects acts none
no_effects (Do effect ∷ acts) none = absurd (cc none)

module _ (start : RoomMachine) (conn : ℕ) where
  abbrev own_user : Option (List ℕ)
  own_user = user_of start.room (client_of start conn)

  abbrev By : List Effect → Served → Served → Type 0
  By effects s t = IsBetweenBy start (Some conn) effects s t

  none_by : (s : Served) → By [] s s
  none_by s = quietly start (Some conn) s s
      (nothing_between start (Some conn) s s refl refl) refl

  answered_by : (line : List ℕ) (s : Served) → By [] s (with_sent (line_to conn line ∷ []) s)
  answered_by line s =
      let told = with_sent (line_to conn line ∷ []) s in
      quietly start (Some conn) s told
      (one_between start (Some conn) s told (an_answer conn line) (line_to conn line ∷ []) refl refl
      refl (record { of_giver = refl; can_be = tt })) refl

  steps_by : (name : Option (List ℕ)) (acts : List Act) (s : Served)
      → AreInTurnAt (IsOwnEffect own_user) s.state acts
      → By (all_done_here s.state (effects_among acts)) s (steps_told conn name acts s)
  steps_by name [] s all = none_by s
  steps_by name (Answer reply ∷ acts) s all =
      let told = step_told conn name (Answer reply) s in
      then_by start (Some conn) [] (all_done_here s.state (effects_among acts)) s told
      (steps_told conn name acts told)
      (answered_by (reply_text s.state.routes.name name reply) s) (steps_by name acts told all)
  steps_by name (Raw line ∷ acts) s all =
      let told = step_told conn name (Raw line) s in
      then_by start (Some conn) [] (all_done_here s.state (effects_among acts)) s told
      (steps_told conn name acts told) (answered_by line.items s) (steps_by name acts told all)
  steps_by name (Do effect ∷ acts) s all =
      let told = step_told conn name (Do effect) s in
      then_by start (Some conn) (done_here s.state effect)
      (all_done_here (view_after s.state effect) (effects_among acts)) s told
      (steps_told conn name acts told)
      (told_by start (Some conn) None effect s all.now.possible all.now.own)
      (steps_by name acts told all.later)

  closed_by : (close : Bool) (s : Served) → By [] s (closed_told close conn s)
  closed_by true s = quietly start (Some conn) s (closed_told true conn s)
      (one_between start (Some conn) s (closed_told true conn s) (a_closing conn)
      (end_of conn ∷ []) refl refl refl (record { of_giver = refl; can_be = tt })) refl
  closed_by false s = none_by s

  decided_by : (name : Option (List ℕ)) (acts : List Act) (close : Bool) (s : Served)
      → AreInTurnAt (IsOwnEffect own_user) s.state acts
      → By (all_done_here s.state (effects_among acts)) s
      (closed_told close conn (steps_told conn name acts s))
  decided_by name acts close s all =
      let effects = all_done_here s.state (effects_among acts) in
      let told = steps_told conn name acts s in
      subst (λ l. By l s (closed_told close conn told)) (append-nil effects)
      (then_by start (Some conn) effects [] s told (closed_told close conn told)
      (steps_by name acts s all) (closed_by close told))

-- ---- lines of users, and of those who register

module _ (view : View) (well : IsWellFormed view.room) (conn : ℕ) where
  abbrev DoneBy : List Effect → Served → Type 0
  DoneBy effects s = IsBetweenBy (machine_of view) (Some conn) effects (in_silence view) s

  user_by : DecidedIsPossible → DecidedByItself → (nick : List ℕ) (message : Parsed)
      → client_of (machine_of view) conn ≡ Some (Registered nick) → (user : Option User)
      → row view.room.users (key nick) ≡ user
      → DoneBy (effects_of_user view user message) (user_told view conn user message)
  user_by possible itself nick message client None there =
      none_by (machine_of view) conn (in_silence view)
  user_by possible itself nick message client (Some user) there =
      let place = place_of view.routes in
      let decision = decide view.room place user.nick message in
      let who_is : Some user.nick ≡ user_of view.room (client_of (machine_of view) conn) =
      sym (ap (user_of view.room) client ∙ ap (option_map (λ (u : User). u.nick)) there) in
      let is_user : row view.room.users (key user.nick) ≡ Some user =
      ap (row view.room.users) (well.users_named (key nick) user there) ∙ there in
      decided_by (machine_of view) conn (Some user.nick) decision.steps decision.close
      (in_silence view)
      (own_all (user_of view.room (client_of (machine_of view) conn)) view decision.steps
      (possible view.room place user.nick message well)
      (subst (λ who. AllByRecursion (λ effect. doer_of effect ≡ who)
      (effects_among decision.steps)) who_is
      (itself view.room place user.nick message user is_user)))

  -- who registers does nothing but to come
  comes_alone : RegisteredIsAdded → UnregisteredChangesNothing → (pending : Pending)
      (message : Parsed) (begun : View)
      → ComesAlone begun
      (effects_among (register view.room (place_of view.routes) pending message).steps)
  comes_alone added unchanging pending message begun =
      by (register view.room (place_of view.routes) pending message).registered refl
    where
      taken : Taken
      taken = register view.room (place_of view.routes) pending message

      nobody : ComesAlone begun []
      nobody = record { nobodys = tt; here = refl }

      somebody : (user : User) → ComesAlone begun (AddUser user ∷ [])
      somebody user = record { nobodys = (refl, tt); here = refl }

      by : (b : Bool) → taken.registered ≡ b → ComesAlone begun (effects_among taken.steps)
      by true is =
          let adds = added view.room (place_of view.routes) pending message is in
          subst (λ acts. ComesAlone begun (effects_among acts)) (sym adds.steps_are)
          (subst (λ effects. ComesAlone begun (AddUser adds.user ∷ effects))
          (sym (no_effects adds.behind adds.no_more)) (somebody adds.user))
      by false is =
          subst (ComesAlone begun) (sym (no_effects taken.steps
          (unchanging view.room (place_of view.routes) pending message is))) nobody

  given_by : RegisteringIsPossible → RegisteredIsAdded → UnregisteredChangesNothing
      → (pending : Pending) (message : Parsed)
      → client_of (machine_of view) conn ≡ Some (Registering pending)
      → DoneBy (effects_among (register view.room (place_of view.routes) pending message).steps)
      (given_told conn (register view.room (place_of view.routes) pending message) view)
  given_by possible added unchanging pending message client =
      let taken = register view.room (place_of view.routes) pending message in
      let now = client_after taken taken.pending.nick in
      let begun = seated conn now view in
      let alone = comes_alone added unchanging pending message begun in
      subst (λ effects. DoneBy effects (given_told conn taken view)) alone.here
      (then_by (machine_of view) (Some conn) []
      (all_done_here begun (effects_among taken.steps)) (in_silence view) (in_silence begun)
      (given_told conn taken view)
      (quietly (machine_of view) (Some conn) (in_silence view) (in_silence begun)
      (one_between (machine_of view) (Some conn) (in_silence view) (in_silence begun)
      (a_client conn now) [] refl refl refl (record { of_giver = refl; can_be = tt })) refl)
      (decided_by (machine_of view) conn taken.pending.nick taken.steps taken.close
      (in_silence begun)
      (own_all (user_of view.room (client_of (machine_of view) conn)) begun taken.steps
      (possible view.room (place_of view.routes) pending message well)
      (subst (λ who. AllByRecursion (λ effect. doer_of effect ≡ who) (effects_among taken.steps))
      (sym (ap (user_of view.room) client)) alone.nobodys))))

  -- ---- a client is gone

  gone_by : DoneBy (option_map_or (λ nick. Quit nick lost_text ∷ [])
      (user_of view.room (client_of (machine_of view) conn)) [])
      (quit_told (user_of view.room (client_of (machine_of view) conn))
      (in_silence (unseated conn view)))
  gone_by =
      then_by (machine_of view) (Some conn) []
      (quits (user_of view.room (client_of (machine_of view) conn))) (in_silence view) left
      (quit_told (user_of view.room (client_of (machine_of view) conn)) left)
      (quietly (machine_of view) (Some conn) (in_silence view) left
      (one_between (machine_of view) (Some conn) (in_silence view) left (a_departure conn) [] refl
      refl refl (record { of_giver = refl; can_be = tt })) refl)
      (by (user_of view.room (client_of (machine_of view) conn)) refl)
    where
      left : Served
      left = in_silence (unseated conn view)

      quits : Option (List ℕ) → List Effect
      quits user = option_map_or (λ nick. Quit nick lost_text ∷ []) user []

      by : (user : Option (List ℕ))
          → user_of view.room (client_of (machine_of view) conn) ≡ user
          → IsBetweenBy (machine_of view) (Some conn) (quits user) left (quit_told user left)
      by None is = none_by (machine_of view) conn left
      by (Some nick) is =
          told_by (machine_of view) (Some conn) None (Quit nick lost_text) left
          (quit_possible view.room well (client_of (machine_of view) conn) nick lost_text is)
          (sym is)

-- ---- whatever a client does

pub client_by : DecidedIsPossible → DecidedByItself → RegisteringIsPossible
    → RegisteredIsAdded → UnregisteredChangesNothing → (view : View) → IsWellFormed view.room
    → (client_event : ClientEvent)
    → IsBetweenBy (machine_of view) (giver_of (an_event (of_client client_event)))
    (effects_of_client view client_event) (in_silence view) (client_told view client_event)
unfolding client_told
client_by possible itself registering added unchanging view well (connects conn host) =
    let begun = in_silence (seated conn (fresh host) view) in
    quietly (machine_of view) (Some conn) (in_silence view) begun
    (one_between (machine_of view) (Some conn) (in_silence view) begun
    (a_client conn (fresh host)) [] refl refl refl (record { of_giver = refl; can_be = tt })) refl
client_by possible itself registering added unchanging view well (says conn (Err why)) =
    none_by (machine_of view) conn (in_silence view)
client_by possible itself registering added unchanging view well (goes conn) =
    gone_by view well conn
client_by possible itself registering added unchanging view well (says conn (Ok message)) =
    by (client_of (machine_of view) conn) refl
  where
    by : (client : Option Client) → client_of (machine_of view) conn ≡ client
        → IsBetweenBy (machine_of view) (Some conn) (effects_of_line view client message)
        (in_silence view) (message_told view conn client message)
    by None is = none_by (machine_of view) conn (in_silence view)
    by (Some (Registering pending)) is =
        given_by view well conn registering added unchanging pending message is
    by (Some (Registered nick)) is =
        user_by view well conn possible itself nick message is
        (row view.room.users (key nick)) refl
