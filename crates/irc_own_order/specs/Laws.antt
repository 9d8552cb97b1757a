-- At every moment each client of a server has received just what one room machine sends it, for the
-- order of effects of its own server.
use Rattle.std.specs.Prelude.{◌≡◌, ℕ, false, Option, Some, None, Result, Ok, Err, List}
use Rattle.std.specs.Prelude.{[], ◌∷◌, ◌++◌, true}
use Rattle.std.specs.List.{list_any}
use Rattle.irc_line.specs.Reading.{read_of}
use Rattle.irc_batch.specs.Batches.{Sent}
use Rattle.irc_numerics.specs.Replies.{reply_text}
use Rattle.irc_numerics.specs.declared.replies.Reply.{Reply}
use Rattle.irc_room.specs.effect.Effect.{Effect}
use Rattle.irc_room.specs.InTurn.{after_all}
use Rattle.irc_room.specs.Room.{IsWellFormed}
use Rattle.irc_routes.specs.Known.{Known}
use Rattle.irc_acts.specs.declared.act.Act.TheVariants.{Answer}
use Rattle.irc_stage.specs.declared.peer.Peer.{Peer}
use Rattle.irc_stage.specs.RoomMachine.{RoomMachine}
use Rattle.irc_stage.specs.Handle.{Handled, closing, stepped, with_effect}
use Rattle.irc_stage.specs.View.{View, machine_of, new_view}
use Rattle.irc_server.specs.declared.event.Event.{Event}
use Rattle.irc_server.specs.declared.event.ServerFault.{ServerFault}
use Rattle.irc_server.specs.ReadEvents.{IsHandled, read_event_of}
use Rattle.irc_server.specs.LinesThatSet.{IsSetBy}
use Rattle.irc_server.specs.Owed.{lines_to}
use Rattle.irc_own_order.specs.Doings.{Doing, an_effect, an_answer, a_closing, EachDoing}
use Rattle.irc_own_order.specs.Doings.{effects_of, is_answer_to, is_spelling, machine_along}
use Rattle.irc_own_order.specs.Doings.{machine_by, sent_along, sent_by, to_clients}
use Rattle.irc_own_order.specs.OwnOrder.{Given, an_event, a_line_that_sets, AreDoneBy, CanBeDone}
use Rattle.irc_own_order.specs.OwnOrder.{giver_of}
use Rattle.irc_own_order.specs.OwnOrder.{AreOneMachine, IsDoneBy, IsOneMachine, after_given, all_of}

-- ---- by each thing that is given

-- Whatever a server with a well-formed room is given, it is one room machine.
abbrev pub ServedIsOneMachine : Type 0
ServedIsOneMachine =
    (view : View) (given : Given) → IsWellFormed view.room → IsOneMachine view given

-- So it is of the code: a server has put out to its clients, behind what it had, just that, and is
-- then that machine.
pub record DoesAsOneMachine (old : View) (given : Given) (out : List Sent) (new : View)
    (out_after : List Sent) : Type 0 where
  pub doings : List Doing
  pub is_done : IsDoneBy old given doings
  pub machine : machine_of new ≡ machine_along (machine_of old) doings
  pub sent : to_clients out_after ≡ to_clients out ++ sent_along (machine_of old) doings

-- what is refused changes nothing
pub record ChangesNothing (old : View) (out : List Sent) (new : View)
    (out_after : List Sent) : Type 0 where
  pub same : new ≡ old
  pub out_is : out_after ≡ out

pub record HandledIsOneMachine : Type 0 where
  pub handled : (old new : View) (event : Event) (out out_after : List Sent)
      → IsWellFormed old.room → IsHandled (Some old) event out (Ok tt) (Some new) out_after
      → DoesAsOneMachine old (an_event (read_event_of event)) out new out_after
  pub set : (old new : View) (link : ℕ) (line : List ℕ) (out out_after : List Sent)
      → IsWellFormed old.room → IsSetBy (Some old) link line out (Ok tt) (Some new) out_after
      → DoesAsOneMachine old (a_line_that_sets link (read_of line)) out new out_after
  pub refused : (old new : View) (event : Event) (out out_after : List Sent)
      (fault : ServerFault) → IsHandled (Some old) event out (Err fault) (Some new) out_after
      → ChangesNothing old out new out_after
  pub set_refused : (old new : View) (link : ℕ) (line : List ℕ) (out out_after : List Sent)
      (fault : ServerFault) → IsSetBy (Some old) link line out (Err fault) (Some new) out_after
      → ChangesNothing old out new out_after
  pub failed : (old : Option View) (event : Event) (out out_after : List Sent)
      (result : Result (Unit {0}) ServerFault) → IsHandled old event out result None out_after
      → out_after ≡ out
  pub set_failed : (old : Option View) (link : ℕ) (line : List ℕ) (out out_after : List Sent)
      (result : Result (Unit {0}) ServerFault) → IsSetBy old link line out result None out_after
      → out_after ≡ out

-- An answer goes to the client that asks: by what others do, and by what comes by links, a client
-- is sent what effects show it, or why it is closed.
abbrev pub AnswersAreItsOwn : Type 0
AnswersAreItsOwn =
    (view : View) (given : Given) (doings : List Doing) (conn : ℕ) → IsDoneBy view given doings
    → (giver_of given ≡ Some conn → ⊥) → list_any (is_answer_to conn) doings ≡ false

-- It is the machine that a server without links is (`handled` of irc_stage): an effect, an answer
-- and a closing are to it what they are there.
pub record IsMachineOfHandled : Type 0 where
  pub effect : (effect : Effect) (before : Handled) → with_effect effect before ≡ record {
    state = machine_by (an_effect effect) before.state;
    out = before.out ++ sent_by (an_effect effect) before.state;
  }
  pub answer : (conn : ℕ) (name : Option (List ℕ)) (reply : Reply) (before : Handled)
      → stepped conn name (Answer reply) before ≡ record {
        state = before.state;
        out = before.out ++ sent_by
            (an_answer conn (reply_text before.state.place.name name reply)) before.state;
      }
  pub closes : (conn : ℕ) (before : Handled) → closing true conn before ≡ record {
    state = machine_by (a_closing conn) before.state;
    out = before.out ++ sent_by (a_closing conn) before.state;
  }

-- ---- over all that is given

-- Whatever it is given, in whatever order, it stays one room machine.
abbrev pub ServersAreOneMachine : Type 0
ServersAreOneMachine =
    (view : View) (givens : List Given) → IsWellFormed view.room → AreOneMachine view givens

-- A new server has such a room.
abbrev pub NewIsWellFormed : Type 0
NewIsWellFormed = (routes : Known) (peers : List Peer) → IsWellFormed (new_view routes peers).room

-- What a server that has run since a moment was given, what it is now, and all that it has put out
-- by then: what it refuses is no part of that.
pub data HasRun (start : View) : List Given → View → List Sent → Type 0 where
  begins : HasRun start [] start []
  handles : {givens : List Given} {old new : View} {put : List Sent} (event : Event)
      (out more : List Sent) → HasRun start givens old put
      → IsHandled (Some old) event out (Ok tt) (Some new) (out ++ more)
      → HasRun start (givens ++ an_event (read_event_of event) ∷ []) new (put ++ more)
  sets : {givens : List Given} {old new : View} {put : List Sent} (link : ℕ)
      (line : List ℕ) (out more : List Sent) → HasRun start givens old put
      → IsSetBy (Some old) link line out (Ok tt) (Some new) (out ++ more)
      → HasRun start (givens ++ a_line_that_sets link (read_of line) ∷ []) new (put ++ more)

-- At every moment it is one room machine, and each client has received what that sends it.
pub record RunsAsOneMachine (start : View) (givens : List Given) (now : View)
    (put : List Sent) : Type 0 where
  pub doings : List (List Doing)
  pub are_done : AreDoneBy start givens doings
  pub can_be : EachDoing CanBeDone (machine_of start) (all_of doings)
  pub machine : machine_of now ≡ machine_along (machine_of start) (all_of doings)
  pub received : (conn : ℕ) → lines_to conn put
      ≡ lines_to conn (sent_along (machine_of start) (all_of doings))

abbrev pub RunIsOneMachine : Type 0
RunIsOneMachine =
    (start : View) (givens : List Given) (now : View) (put : List Sent)
    → IsWellFormed start.room → HasRun start givens now put
    → RunsAsOneMachine start givens now put

-- ---- the order

-- What is done falls in two where that does by which it is done: the effects of all that comes
-- later are behind those of all that came before.
pub record FallsInTwo (view : View) (before later : List Given)
    (doings : List (List Doing)) : Type 0 where
  pub first : List (List Doing)
  pub behind : List (List Doing)
  pub doings_are : doings ≡ first ++ behind
  pub first_are : AreDoneBy view before first
  pub behind_are : AreDoneBy (after_given view before) later behind
  pub effects_are : effects_of (all_of doings)
      ≡ effects_of (all_of first) ++ effects_of (all_of behind)

abbrev pub EffectsAreInOrder : Type 0
EffectsAreInOrder =
    (view : View) (before later : List Given) (doings : List (List Doing))
    → AreDoneBy view (before ++ later) doings → FallsInTwo view before later doings

-- The room is what the effects make of it, in their order, where no channel is spelled anew.
abbrev pub RoomIsOfEffects : Type 0
RoomIsOfEffects =
    (machine : RoomMachine) (doings : List Doing) → list_any is_spelling doings ≡ false
    → (machine_along machine doings).room ≡ after_all machine.room (effects_of doings)
