-- What an event is, what it does, and what comes of asking a server for it.
use Rattle.std.specs.Prelude.{◌≡◌, Option, Some, None, Result, Ok, Err, List, [], ◌∷◌, ◌++◌, ◌⊎◌}
use Rattle.irc_line.specs.Reading.{read_of}
use Rattle.irc_server.specs.declared.event.Event.{Event}
use Rattle.irc_server.specs.declared.event.Event.TheVariants.{Connect, Line, Gone, LinkUp, LinkLine}
use Rattle.irc_server.specs.declared.event.Event.TheVariants.{LinkDown}
use Rattle.irc_batch.specs.Batches.{Sent}
use Rattle.irc_server.specs.declared.event.ServerFault.{ServerFault}
use Rattle.irc_server.specs.declared.event.ServerFault.TheVariants.{Memory, Failed}
use Rattle.irc_stage.specs.View.{View}
use Rattle.irc_stage.specs.Handle.{connects, says, goes}
use Rattle.irc_server.specs.Served.{ReadEvent, of_client, link_up, link_says, link_down, served}
use Rattle.irc_server.specs.Served.{fault_of}

-- what happens by an event; of a line, what it is read as
abbrev pub read_event_of : Event → ReadEvent
read_event_of (Connect conn host) = of_client (connects conn host)
read_event_of (Line conn line) = of_client (says conn (read_of line.items))
read_event_of (Gone conn) = of_client (goes conn)
read_event_of (LinkUp link starts) = link_up link starts
read_event_of (LinkLine link line) = link_says link (read_of line.items)
read_event_of (LinkDown link) = link_down link

-- an event is handled: the server is the one after it, and what it puts out is appended
pub record Does (old : View) (event : Event) (out : List Sent) (new : View)
    (out_after : List Sent) : Type 0 where
  pub view_is : new ≡ (served old (read_event_of event)).state
  pub out_is : out_after ≡ out ++ (served old (read_event_of event)).out

-- What comes of asking a server for an event: it is handled, it is refused and nothing changes,
-- memory runs out, or memory ran out before.
-- A server for which memory ran out is no view: it has failed for good.
pub data IsHandled : Option View → Event → List Sent → Result (Unit {0}) ServerFault → Option View
    → List Sent → Type 0 where
  takes_it : {old new : View} {event : Event} {out out_after : List Sent}
      → fault_of old event ≡ None → Does old event out new out_after
      → IsHandled (Some old) event out (Ok tt) (Some new) out_after
  refuses_it : {old : View} {event : Event} {out : List Sent} {fault : ServerFault}
      → fault_of old event ≡ Some fault → IsHandled (Some old) event out (Err fault) (Some old) out
  wants_memory : {old : View} {event : Event} {out : List Sent} → fault_of old event ≡ None
      → IsHandled (Some old) event out (Err Memory) None out
  has_failed : {event : Event} {out : List Sent} → IsHandled None event out (Err Failed) None out

-- an event is refused, and those behind it are not looked at
pub record StopsAt (old : Option View) (event : Event) (out : List Sent)
    (result : Result (Unit {0}) ServerFault) (new : Option View)
    (out_after : List Sent) : Type 0 where
  pub fault : ServerFault
  pub result_is : result ≡ Err fault
  pub is_refused : IsHandled old event out (Err fault) new out_after

-- an event is handled, and then what is left
pub record GoesOn (old : Option View) (event : Event) (out : List Sent)
    (left : Option View → List Sent → Type 0) : Type 0 where
  pub between : Option View
  pub out_between : List Sent
  pub is_handled : IsHandled old event out (Ok tt) between out_between
  pub left_is : left between out_between

-- what comes of asking a server for these events, one after another
abbrev pub AreHandled : Option View → List Event → List Sent → Result (Unit {0}) ServerFault
    → Option View → List Sent → Type 0
AreHandled old [] out result new out_after = (result ≡ Ok tt) × (new ≡ old) × (out_after ≡ out)
AreHandled old (event ∷ events) out result new out_after =
    StopsAt old event out result new out_after
    ⊎ GoesOn old event out
    (λ between out_between. AreHandled between events out_between result new out_after)
