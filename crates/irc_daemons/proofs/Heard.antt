-- What a server puts out: of one that has failed nothing, of others lines that end; and of one
-- connection, of two lists one behind the other.
use Rattle.std.proofs.Common.{◌≡◌, ℕ, Bool, true, false, not, ◌&&◌, Option, None, Result, Ok, List}
use Rattle.std.proofs.Common.{[], ◌∷◌, ◌++◌, refl, ◌∙◌, ap, subst, if◌then◌else◌}
use Rattle.std.specs.List.{AllByRecursion}
use Rattle.irc_batch.specs.Batches.{Sent}
use Rattle.irc_server.specs.declared.event.Event.{Event}
use Rattle.irc_server.specs.declared.event.ServerFault.{ServerFault}
use Rattle.irc_server.specs.ReadEvents.{IsHandled, has_failed}
use Rattle.irc_server.specs.Served.{ReadEvent, served}
use Rattle.irc_server.specs.LineEnds.{EndsInLineEnd, ServedLinesEnd}
use Rattle.irc_stage.specs.View.{View}
use Rattle.irc_network.specs.Node.{Served, reply, serves_read_event}
use Rattle.irc_engine.specs.Carrying.{answers, bytes_owed, is_closed_by}
use Rattle.irc_engine.specs.Running.{AreAsked, ServerAsked}
use Rattle.irc_engine.specs.Lemmas.CarryingLaws.{owed-append}

abbrev replied : Bool → View → ReadEvent → Served
replied b view read_event =
    if b then record { state = (served view read_event).state; out = (served view read_event).out }
    else record { state = view; out = [] }

-- ---- a server for which memory ran out

failed_stays : (event : Event) (result : Result (Unit {0}) ServerFault) (server : Option View)
    (outs : List Sent) → IsHandled None event [] result server outs → server ≡ None
failed_stays event result server outs has_failed = refl

pub none_stays : (events : List Event) (old new : ServerAsked) (outs : List Sent)
    → old.server ≡ None → AreAsked old events outs new → new.server ≡ None
none_stays [] old new outs none asked = ap (λ (a : ServerAsked). a.server) asked.1 ∙ none
none_stays (event ∷ events) old new outs none asked =
    none_stays events asked.between new asked.more
    (failed_stays event (Ok tt) asked.between.server asked.first
    (subst (λ s. IsHandled s event [] (Ok tt) asked.between.server asked.first) none
    asked.is_handled))
    asked.rest_is

-- ---- what a server of a network puts out

pub reply_ends : ServedLinesEnd → (view : View) (read_event : ReadEvent)
    → AllByRecursion EndsInLineEnd (reply view read_event).out
reply_ends law view read_event = by (serves_read_event view read_event)
  where
    by : (b : Bool) → AllByRecursion EndsInLineEnd (replied b view read_event).out
    by true = law view read_event
    by false = tt

-- ---- lines one after another

pub answers_both : (conn : ℕ) (one other : List Sent) → is_closed_by conn one ≡ false
    → answers conn (one ++ other) ≡ answers conn one ++ answers conn other
answers_both conn one other opened =
    owed-append true conn one other
    ∙ ap (λ c. answers conn one ++ bytes_owed (true && not c) conn other) opened
