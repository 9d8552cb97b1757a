-- Answers are one's own, and what a server that has run has put out.
use Rattle.std.proofs.Common.{◌≡◌, ℕ, Bool, true, false, ◌||◌, Option, Some, Ok, List, [], ◌∷◌}
use Rattle.std.proofs.Common.{◌++◌, refl, sym, ◌∙◌, ap, append-nil, append_assoc, nat_eq}
use Rattle.std.proofs.lemmas.Bool.{eqb-true}
use Rattle.std.proofs.lemmas.List.{append_cancel_left}
use Rattle.std.specs.List.{list_any}
use Rattle.irc_batch.specs.Batches.{Sent}
use Rattle.irc_line.specs.Reading.{read_of}
use Rattle.irc_stage.specs.RoomMachine.{RoomMachine}
use Rattle.irc_stage.specs.View.{View, machine_of}
use Rattle.irc_server.specs.declared.event.Event.{Event}
use Rattle.irc_server.specs.LinesThatSet.{IsSetBy}
use Rattle.irc_server.specs.LinesThatSet as set
use Rattle.irc_server.specs.Owed.{lines_to}
use Rattle.irc_server.specs.ReadEvents.{IsHandled, read_event_of}
use Rattle.irc_server.specs.ReadEvents as handled
use Rattle.irc_own_order.specs.Doings.{Doing, an_effect, a_spelling, an_answer, a_client}
use Rattle.irc_own_order.specs.Doings.{a_departure, a_closing, an_ending, a_place, EachDoing}
use Rattle.irc_own_order.specs.Doings.{is_answer_to, machine_by}
use Rattle.irc_own_order.specs.OwnOrder.{Given, an_event, a_line_that_sets, IsDue, after_given}
use Rattle.irc_own_order.specs.OwnOrder.{given_served, giver_of, put_out}
use Rattle.irc_own_order.specs.Laws.{AnswersAreItsOwn, HasRun, begins, handles, sets}
use Rattle.irc_own_order.specs.Laws.{IsMachineOfHandled, RunIsOneMachine}
use Rattle.irc_own_order.specs.Laws.{ServersAreOneMachine}

-- ---- answers

none_answered : (start : RoomMachine) (giver : Option ℕ) (conn : ℕ)
    → (giver ≡ Some conn → ⊥) → (machine : RoomMachine) (doings : List Doing)
    → EachDoing (IsDue start giver) machine doings → list_any (is_answer_to conn) doings ≡ false
none_answered start giver conn other machine [] each = refl
none_answered start giver conn other machine (an_answer to line ∷ doings) each =
    by (nat_eq to conn) refl (none_answered start giver conn other machine doings each.later)
  where
    by : (b : Bool) → nat_eq to conn ≡ b → list_any (is_answer_to conn) doings ≡ false
        → (b || list_any (is_answer_to conn) doings) ≡ false
    by true is rest = absurd (other (each.now.of_giver ∙ ap Some (eqb-true to conn is)))
    by false is rest = rest
none_answered start giver conn other machine (an_effect effect ∷ doings) each =
    none_answered start giver conn other (machine_by (an_effect effect) machine) doings each.later
none_answered start giver conn other machine (a_spelling channel ∷ doings) each =
    none_answered start giver conn other (machine_by (a_spelling channel) machine) doings each.later
none_answered start giver conn other machine (a_client to client ∷ doings) each =
    none_answered start giver conn other (machine_by (a_client to client) machine) doings each.later
none_answered start giver conn other machine (a_departure to ∷ doings) each =
    none_answered start giver conn other (machine_by (a_departure to) machine) doings each.later
none_answered start giver conn other machine (a_closing to ∷ doings) each =
    none_answered start giver conn other (machine_by (a_closing to) machine) doings each.later
none_answered start giver conn other machine (an_ending nick words ∷ doings) each =
    none_answered start giver conn other (machine_by (an_ending nick words) machine) doings
    each.later
none_answered start giver conn other machine (a_place place ∷ doings) each =
    none_answered start giver conn other (machine_by (a_place place) machine) doings each.later

pub answers_are_its_own : AnswersAreItsOwn
answers_are_its_own view given doings conn done other =
    none_answered (machine_of view) (giver_of given) conn other (machine_of view) doings done.each

pub is_machine_of_handled : IsMachineOfHandled
is_machine_of_handled = record {
  effect = λ effect before. refl;
  answer = λ conn name reply before. refl;
  closes = λ conn before. refl;
}

-- ---- one thing more

after_more : (view : View) (givens : List Given) (given : Given)
    → after_given view (givens ++ given ∷ []) ≡ (given_served (after_given view givens) given).state
after_more view [] given = refl
after_more view (first ∷ givens) given = after_more (given_served view first).state givens given

put_more : (view : View) (givens : List Given) (given : Given) → put_out view (givens ++ given ∷ [])
    ≡ put_out view givens ++ (given_served (after_given view givens) given).out
put_more view [] given = append-nil (given_served view given).out
put_more view (first ∷ givens) given =
    let next = (given_served view first).state in
    ap (λ l. (given_served view first).out ++ l) (put_more next givens given)
    ∙ sym (append_assoc (given_served view first).out (put_out next givens)
    (given_served (after_given next givens) given).out)

-- what a server is after all that it was given, and all that it has put out
record IsAll (start : View) (givens : List Given) (now : View) (put : List Sent) : Type 0 where
  now_is : now ≡ after_given start givens
  put_is : put ≡ put_out start givens

one_more : (start : View) (givens : List Given) (given : Given) (old new : View)
    (put more out : List Sent) → IsAll start givens old put
    → new ≡ (given_served old given).state → out ++ more ≡ out ++ (given_served old given).out
    → IsAll start (givens ++ given ∷ []) new (put ++ more)
one_more start givens given old new put more out so view_is out_is = record {
  now_is = view_is ∙ ap (λ (v : View). (given_served v given).state) so.now_is
      ∙ sym (after_more start givens given);
  put_is = ap (λ l. put ++ l)
      (append_cancel_left out more (given_served old given).out out_is)
      ∙ ap (λ l. l ++ (given_served old given).out) so.put_is
      ∙ ap (λ (v : View). put_out start givens ++ (given_served v given).out) so.now_is
      ∙ sym (put_more start givens given);
}

handled_more : (start : View) (givens : List Given) (old new : View) (put more : List Sent)
    (event : Event) (out : List Sent) → IsAll start givens old put
    → IsHandled (Some old) event out (Ok tt) (Some new) (out ++ more)
    → IsAll start (givens ++ an_event (read_event_of event) ∷ []) new (put ++ more)
handled_more start givens old new put more event out so (handled.takes_it none does) =
    one_more start givens (an_event (read_event_of event)) old new put more out so does.view_is
    does.out_is

set_more : (start : View) (givens : List Given) (old new : View) (put more : List Sent)
    (link : ℕ) (line : List ℕ) (out : List Sent) → IsAll start givens old put
    → IsSetBy (Some old) link line out (Ok tt) (Some new) (out ++ more)
    → IsAll start (givens ++ a_line_that_sets link (read_of line) ∷ []) new (put ++ more)
set_more start givens old new put more link line out so (set.takes_it none does) =
    one_more start givens (a_line_that_sets link (read_of line)) old new put more out so
    does.view_is does.out_is

is_all : {start : View} {givens : List Given} {now : View} {put : List Sent}
    → HasRun start givens now put → IsAll start givens now put
is_all begins = record { now_is = refl; put_is = refl }
is_all {start} (handles {givens} {old} {new} {put} event out more run is) =
    handled_more start givens old new put more event out (is_all run) is
is_all {start} (sets {givens} {old} {new} {put} link line out more run is) =
    set_more start givens old new put more link line out (is_all run) is

pub run_is_one_machine : ServersAreOneMachine → RunIsOneMachine
run_is_one_machine always start givens now put well run =
    let so = is_all run in
    let machine = always start givens well in record {
      doings = machine.doings;
      are_done = machine.are_done;
      can_be = machine.can_be;
      machine = ap machine_of so.now_is ∙ machine.machine;
      received = λ conn. ap (lines_to conn) so.put_is ∙ machine.received conn;
    }
