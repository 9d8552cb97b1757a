-- Whatever a server is given, one thing after another, it is one room machine.
use Rattle.std.proofs.Common.{◌≡◌, ℕ, Option, Some, None, Result, Ok, Err, List, [], ◌∷◌, ◌++◌}
use Rattle.std.proofs.Common.{refl, sym, ◌∙◌, ap, append_assoc, subst}
use Rattle.std.specs.FinMap.{get}
use Rattle.irc_batch.specs.Batches.{Sent}
use Rattle.irc_line.specs.Reading.{read_of}
use Rattle.irc_room.specs.Lemmas.WellFormedLaw.{no_room_is_well_formed}
use Rattle.irc_room.specs.Room.{IsWellFormed}
use Rattle.irc_commands.specs.Comings.{RegisteredIsAdded, UnregisteredChangesNothing}
use Rattle.irc_commands.specs.Doers.{DecidedByItself}
use Rattle.irc_commands.specs.Possible.{DecidedIsPossible, RegisteringIsPossible}
use Rattle.irc_stage.specs.RoomMachine.{RoomMachine}
use Rattle.irc_stage.specs.EffectTold.{in_silence}
use Rattle.irc_stage.specs.View.{View, machine_of}
use Rattle.irc_server.specs.declared.event.Event.{Event}
use Rattle.irc_server.specs.declared.event.ServerFault.{ServerFault}
use Rattle.irc_server.specs.Lemmas.ServedByMoves.{served_by_moves, set_by_moves}
use Rattle.irc_server.specs.LinesThatSet.{IsSetBy, Sets}
use Rattle.irc_server.specs.LinesThatSet as set
use Rattle.irc_server.specs.ReadEvents.{Does, IsHandled, read_event_of}
use Rattle.irc_server.specs.ReadEvents as handled
use Rattle.irc_server.specs.Owed.{lines_to}
use Rattle.irc_server.specs.Served.{of_client, link_up, link_says, link_down, served}
use Rattle.irc_own_order.specs.Doings.{Doing, EachDoing, effects_of, machine_along, sent_along}
use Rattle.irc_own_order.specs.Doings.{to_clients}
use Rattle.irc_own_order.specs.OwnOrder.{Given, an_event, a_line_that_sets, given_served}
use Rattle.irc_own_order.specs.OwnOrder.{giver_of, IsDoneBy, IsOneMachine, put_out}
use Rattle.irc_own_order.specs.OwnOrder.{AreOneMachine, CanBeDone, all_of}
use Rattle.irc_own_order.specs.OwnOrder.{AreItsEffects}
use Rattle.irc_own_order.specs.Laws.{ServedIsOneMachine, ServersAreOneMachine, NewIsWellFormed}
use Rattle.irc_own_order.specs.Laws.{EffectsAreInOrder, HandledIsOneMachine}
use Rattle.irc_own_order.specs.Laws.{DoesAsOneMachine, ChangesNothing}
use Rattle.irc_own_order.specs.Lemmas.ToClients.{lines_are, to_clients-append}
use Rattle.irc_own_order.specs.Lemmas.InTurn.{IsBetween, due_can_be, each_doing-append}
use Rattle.irc_own_order.specs.Lemmas.InTurn.{effects_of-append, machine_along-append}
use Rattle.irc_own_order.specs.Lemmas.InTurn.{sent_along-append, well_along}
use Rattle.irc_own_order.specs.Lemmas.LinksDo.{link_between}
use Rattle.irc_own_order.specs.Lemmas.ClientsDo.{client_by}

-- ---- one thing

done_between : (view : View) (given : Given)
    (between : IsBetween (machine_of view) (giver_of given) (in_silence view)
    (given_served view given)) → AreItsEffects view given (effects_of between.doings)
    → IsOneMachine view given
done_between view given between effects = record {
  doings = between.doings;
  is_done = record {
    machine = between.machine;
    sent = between.sent;
    each = between.each;
    effects = effects;
  };
}

pub served_is_one_machine : DecidedIsPossible → DecidedByItself → RegisteringIsPossible
    → RegisteredIsAdded → UnregisteredChangesNothing → ServedIsOneMachine
unfolding served
served_is_one_machine possible itself registering added unchanging view
    (an_event (of_client client_event)) well =
    let so = client_by possible itself registering added unchanging view well client_event in
    done_between view (an_event (of_client client_event)) so.between so.effects_are
served_is_one_machine possible itself registering added unchanging view
    (an_event (link_up link starts)) well =
    done_between view (an_event (link_up link starts))
    (link_between (machine_of view) tt (served_by_moves view (link_up link starts))) tt
served_is_one_machine possible itself registering added unchanging view
    (an_event (link_says link read)) well =
    done_between view (an_event (link_says link read))
    (link_between (machine_of view) tt (served_by_moves view (link_says link read))) tt
served_is_one_machine possible itself registering added unchanging view
    (an_event (link_down link)) well =
    done_between view (an_event (link_down link))
    (link_between (machine_of view) tt (served_by_moves view (link_down link))) tt
served_is_one_machine possible itself registering added unchanging view
    (a_line_that_sets link read) well =
    done_between view (a_line_that_sets link read)
    (link_between (machine_of view) tt (set_by_moves view link read (get view.ends link) refl)) tt

-- the room stays well formed
well_behind : (view : View) (given : Given) (doings : List Doing) → IsDoneBy view given doings
    → IsWellFormed view.room → IsWellFormed (given_served view given).state.room
well_behind view given doings done well =
    subst (λ (m : RoomMachine). IsWellFormed m.room) (sym done.machine)
    (well_along (machine_of view) doings
    (due_can_be (machine_of view) (giver_of given) (machine_of view) doings done.each) well)

-- ---- one thing after another

pub servers_are_one_machine : ServedIsOneMachine → ServersAreOneMachine
servers_are_one_machine each view [] well = record {
  doings = [];
  are_done = tt;
  machine = refl;
  sent = refl;
  received = λ conn. refl;
  can_be = tt;
  well_formed = well;
}
servers_are_one_machine each view (given ∷ later) well =
    let one = each view given well in
    let next : View = (given_served view given).state in
    let rest = servers_are_one_machine each next later
    (well_behind view given one.doings one.is_done well) in
    more view given later one.doings one.is_done rest
  where
    more : (view : View) (given : Given) (later : List Given) (doings : List Doing)
        → IsDoneBy view given doings → AreOneMachine (given_served view given).state later
        → AreOneMachine view (given ∷ later)
    more view given later doings done rest =
        let behind = all_of rest.doings in
        let start = machine_of view in
        let out = (given_served view given).out in
        let next = (given_served view given).state in
        let sent : to_clients (out ++ put_out next later) ≡ sent_along start (doings ++ behind) =
        to_clients-append out (put_out next later)
        ∙ ap (λ l. l ++ to_clients (put_out next later)) done.sent
        ∙ ap (λ l. sent_along start doings ++ l) rest.sent
        ∙ ap (λ m. sent_along start doings ++ sent_along m behind) done.machine
        ∙ sym (sent_along-append start doings behind) in
        record {
          doings = doings ∷ rest.doings;
          are_done = record { now = done; later = rest.are_done };
          machine = rest.machine ∙ ap (λ m. machine_along m behind) done.machine
              ∙ sym (machine_along-append start doings behind);
          sent = sent;
          received = λ conn. lines_are conn (out ++ put_out next later)
              ∙ ap (lines_to conn) sent;
          can_be = each_doing-append CanBeDone start doings behind
              (due_can_be start (giver_of given) start doings done.each)
              (subst (λ m. EachDoing CanBeDone m behind) done.machine rest.can_be);
          well_formed = rest.well_formed;
        }

pub new_is_well_formed : NewIsWellFormed
new_is_well_formed routes peers = no_room_is_well_formed

-- ---- the order

pub effects_are_in_order : EffectsAreInOrder
effects_are_in_order view [] later doings are = record {
  first = [];
  behind = doings;
  doings_are = refl;
  first_are = tt;
  behind_are = are;
  effects_are = refl;
}
effects_are_in_order view (given ∷ before) later [] are = absurd are
effects_are_in_order view (given ∷ before) later (doings ∷ more) are =
    let rest = effects_are_in_order (given_served view given).state before later more are.later in
    record {
      first = doings ∷ rest.first;
      behind = rest.behind;
      doings_are = ap (λ l. doings ∷ l) rest.doings_are;
      first_are = record { now = are.now; later = rest.first_are };
      behind_are = rest.behind_are;
      effects_are = effects_of-append doings (all_of more)
          ∙ ap (λ l. effects_of doings ++ l) rest.effects_are
          ∙ sym (append_assoc (effects_of doings) (effects_of (all_of rest.first))
          (effects_of (all_of rest.behind)))
          ∙ ap (λ l. l ++ effects_of (all_of rest.behind))
          (sym (effects_of-append doings (all_of rest.first)));
    }

-- ---- of the code

does_so : ServedIsOneMachine → (old new : View) (given : Given) (out out_after : List Sent)
    → IsWellFormed old.room → new ≡ (given_served old given).state
    → out_after ≡ out ++ (given_served old given).out
    → DoesAsOneMachine old given out new out_after
does_so each old new given out out_after well view_is out_is =
    let one = each old given well in record {
      doings = one.doings;
      is_done = one.is_done;
      machine = ap machine_of view_is ∙ one.is_done.machine;
      sent = ap to_clients out_is ∙ to_clients-append out (given_served old given).out
          ∙ ap (λ l. to_clients out ++ l) one.is_done.sent;
    }

module _ (each : ServedIsOneMachine) where
  handled_so : (old new : View) (event : Event) (out out_after : List Sent)
      → IsWellFormed old.room → IsHandled (Some old) event out (Ok tt) (Some new) out_after
      → DoesAsOneMachine old (an_event (read_event_of event)) out new out_after
  handled_so old new event out out_after well (handled.takes_it none does) =
      does_so each old new (an_event (read_event_of event)) out out_after well does.view_is
      does.out_is

  set_so : (old new : View) (link : ℕ) (line : List ℕ) (out out_after : List Sent)
      → IsWellFormed old.room → IsSetBy (Some old) link line out (Ok tt) (Some new) out_after
      → DoesAsOneMachine old (a_line_that_sets link (read_of line)) out new out_after
  set_so old new link line out out_after well (set.takes_it none sets) =
      does_so each old new (a_line_that_sets link (read_of line)) out out_after well
      sets.view_is sets.out_is

refused_so : (old new : View) (event : Event) (out out_after : List Sent) (fault : ServerFault)
    → IsHandled (Some old) event out (Err fault) (Some new) out_after
    → ChangesNothing old out new out_after
refused_so old new event out out_after fault (handled.refuses_it is) =
    record { same = refl; out_is = refl }

set_refused_so : (old new : View) (link : ℕ) (line : List ℕ) (out out_after : List Sent)
    (fault : ServerFault) → IsSetBy (Some old) link line out (Err fault) (Some new) out_after
    → ChangesNothing old out new out_after
set_refused_so old new link line out out_after fault (set.refuses_it is) =
    record { same = refl; out_is = refl }

failed_so : (old : Option View) (event : Event) (out out_after : List Sent)
    (result : Result (Unit {0}) ServerFault) → IsHandled old event out result None out_after
    → out_after ≡ out
failed_so old event out out_after result (handled.wants_memory none) = refl
failed_so old event out out_after result handled.has_failed = refl

set_failed_so : (old : Option View) (link : ℕ) (line : List ℕ) (out out_after : List Sent)
    (result : Result (Unit {0}) ServerFault) → IsSetBy old link line out result None out_after
    → out_after ≡ out
set_failed_so old link line out out_after result (set.wants_memory none) = refl
set_failed_so old link line out out_after result set.has_failed = refl

pub handled_is_one_machine : ServedIsOneMachine → HandledIsOneMachine
handled_is_one_machine each = record {
  handled = handled_so each;
  set = set_so each;
  refused = refused_so;
  set_refused = set_refused_so;
  failed = failed_so;
  set_failed = set_failed_so;
}
