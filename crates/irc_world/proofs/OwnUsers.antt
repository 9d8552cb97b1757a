-- Whose users a client's doings make.
use Rattle.std.proofs.Common.{◌≡◌, ℕ, Bool, true, false, ◌||◌, Option, Some, None, Ok, Err, List}
use Rattle.std.proofs.Common.{[], ◌∷◌, refl, sym, ◌∙◌, ap, subst}
use Rattle.std.specs.List.{list_any}
use Rattle.std.proofs.lemmas.Bool.{or_parts}
use Rattle.irc_names.specs.Fold.{key}
use Rattle.irc_names.specs.Tables.{row}
use Rattle.irc_line.specs.Messages.{Parsed}
use Rattle.irc_users.specs.declared.user.User.{User}
use Rattle.irc_room.specs.effect.Effect.{Effect}
use Rattle.irc_room.specs.effect.Effect.TheVariants.{AddUser, Quit}
use Rattle.irc_acts.specs.declared.act.Act.{Act}
use Rattle.irc_acts.specs.declared.act.Act.TheVariants.{Answer, Raw, Do}
use Rattle.irc_commands.specs.Decide.{decide}
use Rattle.irc_commands.specs.Register.{register, Registered as Given}
use Rattle.irc_commands.specs.Comings.{adds_user, is_effect, DecidedAddsNobody, RegisteredIsAdded}
use Rattle.irc_commands.specs.Comings.{UnregisteredChangesNothing}
use Rattle.irc_stage.specs.declared.clients.Client.{Client}
use Rattle.irc_stage.specs.declared.clients.Client.TheVariants.{Registering, Registered}
use Rattle.irc_stage.specs.RoomMachine.{RoomMachine, client_of, with_client, without_client}
use Rattle.irc_stage.specs.Handle.{ClientEvent, connects, says, goes, Handled, handled, with_effect}
use Rattle.irc_stage.specs.Handle.{stepped, all_stepped, unchanged, closing, client_after}
use Rattle.irc_stage.specs.Handle.{user_decided, said_by, user_of, quits, lost_text}
use Rattle.irc_world.specs.Lemmas.HomesPassing.{NewPasses, pass_after}
use Rattle.irc_world.specs.Homes.{HomesPass, ClientsBringOwnUsers}

-- a step that is no effect adds nobody
adds_none : (act : Act) → is_effect act ≡ false → adds_user act ≡ false
adds_none (Answer reply) none = refl
adds_none (Raw line) none = refl
adds_none (Do effect) none = absurd (cc none)

none_added : (acts : List Act) → list_any is_effect acts ≡ false → list_any adds_user acts ≡ false
none_added [] none = refl
none_added (act ∷ acts) none =
    let both = or_parts (is_effect act) (list_any is_effect acts) none in
    ap (λ b. b || list_any adds_user acts) (adds_none act both.0) ∙ none_added acts both.1

module _ (passes : List ℕ → Bool) where
  adds_nobody : (effect : Effect) → adds_user (Do effect) ≡ false → NewPasses passes effect
  adds_nobody (AddUser user) none = absurd (cc none)
  adds_nobody other none = tt

  steps_pass : (conn : ℕ) (name : Option (List ℕ)) (acts : List Act) (before : Handled)
      → HomesPass passes before.state.room → list_any adds_user acts ≡ false
      → HomesPass passes (all_stepped conn name acts before).state.room
  steps_pass conn name [] before all none = all
  steps_pass conn name (Answer reply ∷ acts) before all none =
      steps_pass conn name acts (stepped conn name (Answer reply) before) all none
  steps_pass conn name (Raw line ∷ acts) before all none =
      steps_pass conn name acts (stepped conn name (Raw line) before) all none
  steps_pass conn name (Do effect ∷ acts) before all none =
      let both = or_parts (adds_user (Do effect)) (list_any adds_user acts) none in
      steps_pass conn name acts (with_effect effect before)
      (pass_after passes before.state.room effect all (adds_nobody effect both.0)) both.1

  close_passes : (close : Bool) (conn : ℕ) (before : Handled) → HomesPass passes before.state.room
      → HomesPass passes (closing close conn before).state.room
  close_passes true conn before all = all
  close_passes false conn before all = all

  module _ (adds : DecidedAddsNobody) (comes : RegisteredIsAdded)
      (stays : UnregisteredChangesNothing) (machine : RoomMachine)
      (all : HomesPass passes machine.room) (here : passes machine.place.name ≡ true) where
    user_passes : (conn : ℕ) (o : Option User) (message : Parsed)
        → HomesPass passes (user_decided machine conn o message).state.room
    user_passes conn None message = all
    user_passes conn (Some user) message =
        close_passes (decide machine.room machine.place user.nick message).close conn
        (all_stepped conn (Some user.nick)
        (decide machine.room machine.place user.nick message).steps (unchanged machine))
        (steps_pass conn (Some user.nick)
        (decide machine.room machine.place user.nick message).steps (unchanged machine) all
        (adds machine.room machine.place user.nick message))

    said_passes : (conn : ℕ) (o : Option Client) (message : Parsed)
        → HomesPass passes (said_by machine conn o message).state.room
    said_passes conn None message = all
    said_passes conn (Some (Registering pending)) message =
        close_passes given.close conn (all_stepped conn given.pending.nick given.steps
        (unchanged now)) (by given.registered refl)
      where
        given : Given
        given = register machine.room machine.place pending message

        now : RoomMachine
        now = with_client machine conn (client_after given given.pending.nick)

        by : (b : Bool) → given.registered ≡ b → HomesPass passes
            (all_stepped conn given.pending.nick given.steps (unchanged now)).state.room
        by true is =
            let first = comes machine.room machine.place pending message is in
            subst (λ acts. HomesPass passes (all_stepped conn given.pending.nick acts
            (unchanged now)).state.room) (sym first.steps_are)
            (steps_pass conn given.pending.nick first.behind
            (with_effect (AddUser first.user) (unchanged now))
            (pass_after passes machine.room (AddUser first.user) all
            (ap passes first.is_home ∙ here)) (none_added first.behind first.no_more))
        by false is = steps_pass conn given.pending.nick given.steps (unchanged now) all
            (none_added given.steps (stays machine.room machine.place pending message is))
    said_passes conn (Some (Registered nick)) message =
        user_passes conn (row machine.room.users (key nick)) message

    quits_pass : (nick : Option (List ℕ)) (before : Handled) → HomesPass passes before.state.room
        → HomesPass passes (quits nick before).state.room
    quits_pass None before all = all
    quits_pass (Some nick) before all =
        pass_after passes before.state.room (Quit nick lost_text) all tt

    handled_passes : (client_event : ClientEvent)
        → HomesPass passes (handled machine client_event).state.room
    unfolding handled
    handled_passes (connects conn host) = all
    handled_passes (says conn (Err fault)) = all
    handled_passes (says conn (Ok message)) = said_passes conn (client_of machine conn) message
    handled_passes (goes conn) = quits_pass (user_of machine.room (client_of machine conn))
        (unchanged (without_client machine conn)) all

pub clients_bring_own_users : DecidedAddsNobody → RegisteredIsAdded → UnregisteredChangesNothing
    → ClientsBringOwnUsers
clients_bring_own_users adds comes stays machine client_event passes all here =
    handled_passes passes adds comes stays machine all here client_event
