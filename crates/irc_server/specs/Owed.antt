-- What each connection is owed over a list of events of clients: the lines to it that the server
-- puts out by them, in order.
use Rattle.std.specs.Prelude.{◌≡◌, ℕ, Option, Some, None, List, [], ◌∷◌, ◌++◌, map, nat_eq}
use Rattle.std.specs.Prelude.{if◌then◌else◌}
use Rattle.std.specs.List.{filter_map}
use Rattle.irc_server.specs.declared.event.Event.{Event}
use Rattle.irc_batch.specs.Batches.{Sent, line_to}
use Rattle.irc_stage.specs.RoomMachine.{RoomMachine}
use Rattle.irc_stage.specs.View.{View, machine_of, IsAlone}
use Rattle.irc_stage.specs.Handle.{ClientEvent, handled}
use Rattle.irc_server.specs.Served.{of_client, served}
use Rattle.irc_server.specs.ReadEvents.{read_event_of}

-- a line, where it is one to this connection
abbrev pub line_to_conn : ℕ → Sent → Option (List ℕ)
line_to_conn conn (line_to to line) = if nat_eq to conn then Some line else None
line_to_conn conn other = None

-- what a connection receives of what is put out
abbrev pub lines_to : ℕ → List Sent → List (List ℕ)
lines_to conn out = filter_map (line_to_conn conn) out

-- the server after these events of clients
abbrev pub after_all : View → List ClientEvent → View
after_all view [] = view
after_all view (client_event ∷ client_events) =
    after_all (served view (of_client client_event)).state client_events

-- what a connection is owed by them
abbrev pub lines_owed : ℕ → View → List ClientEvent → List (List ℕ)
lines_owed conn view [] = []
lines_owed conn view (client_event ∷ client_events) =
    lines_to conn (served view (of_client client_event)).out
    ++ lines_owed conn (served view (of_client client_event)).state client_events

-- what a connection is owed by them where the server is a room machine alone
abbrev pub owed_by_machine : ℕ → RoomMachine → List ClientEvent → List (List ℕ)
owed_by_machine conn machine [] = []
owed_by_machine conn machine (client_event ∷ client_events) =
    lines_to conn (handled machine client_event).out
    ++ owed_by_machine conn (handled machine client_event).state client_events

-- So it is of a server without links.
abbrev pub LoneServerOwesTheSame : Type 0
LoneServerOwesTheSame =
    (view : View) (client_events : List ClientEvent) → IsAlone view → (conn : ℕ)
    → lines_owed conn view client_events ≡ owed_by_machine conn (machine_of view) client_events

-- These events are of clients alone, and this is what happens by them.
abbrev pub AreOfClients : List Event → List ClientEvent → Type 0
AreOfClients events client_events = map read_event_of events ≡ map of_client client_events

-- From one view of a server to another by what clients do, each connection has received what the
-- server owes it.
pub record Receives (old : View) (client_events : List ClientEvent) (out : List Sent)
    (new : Option View)
    (out_after : List Sent) : Type 0 where
  pub view_is : new ≡ Some (after_all old client_events)
  pub received : (conn : ℕ) → lines_to conn out_after ≡ lines_to conn out
      ++ lines_owed conn old client_events

-- so it is wherever these events are of clients alone
abbrev pub AllReceive : Option View → List Event → List Sent → Option View → List Sent → Type 0
AllReceive old events out new out_after =
    (view : View) (client_events : List ClientEvent) → old ≡ Some view
    → AreOfClients events client_events
    → Receives view client_events out new out_after
