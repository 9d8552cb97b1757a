-- What one event does to a server: the view after it, and what is put out, in order; and which
-- events are refused.
use Rattle.std.specs.Prelude.{◌≡◌, ℕ, ⊤, Option, Some, None, Result, List}
use Rattle.std.specs.FinMap.{get}
use Rattle.irc_line.specs.declared.reading.LineFault.{LineFault}
use Rattle.irc_line.specs.Messages.{Parsed}
use Rattle.irc_room.specs.Room.{IsWellFormed}
use Rattle.irc_stage.specs.declared.clients.Client.{Client}
use Rattle.irc_server.specs.declared.event.Event.{Event}
use Rattle.irc_server.specs.declared.event.Event.TheVariants.{Connect, Line, Gone, LinkUp, LinkLine}
use Rattle.irc_server.specs.declared.event.Event.TheVariants.{LinkDown}
use Rattle.irc_server.specs.declared.event.ServerFault.{ServerFault}
use Rattle.irc_server.specs.declared.event.ServerFault.TheVariants.{NoSuchConnection}
use Rattle.irc_server.specs.declared.event.ServerFault.TheVariants.{ConnectionThere, NoSuchLink}
use Rattle.irc_server.specs.declared.event.ServerFault.TheVariants.{LinkThere}
use Rattle.irc_stage.specs.RoomMachine.{client_of}
use Rattle.irc_stage.specs.View.{End, View, machine_of, IsAlone}
use Rattle.irc_stage.specs.ClientTold.{client_told}
use Rattle.irc_stage.specs.Handle.{ClientEvent, handled}
use Rattle.irc_stage.specs.Matched.{IsDue, IsMatched}
use Rattle.irc_server.specs.DeedTold.{link_lost}
use Rattle.irc_server.specs.LinkServed.{line_served, link_opened}
pub use Rattle.irc_stage.specs.EffectTold.{Served, put_back, in_silence}

-- What happens to a server: something by one of its clients; a link that this end opened to a peer,
-- or that was opened to it; a line of the server at the other end, as it is read; a link that is
-- lost.
pub data ReadEvent : Type 0 where
  of_client : (client_event : ClientEvent) → ReadEvent
  link_up : (link : ℕ) (starts : Option (List ℕ)) → ReadEvent
  link_says : (link : ℕ) (read : Result Parsed LineFault) → ReadEvent
  link_down : (link : ℕ) → ReadEvent

-- Each is done as a server with links does it: what its clients do in `ClientTold`, what comes by
-- its links in `LinkServed`.
unfoldable pub served : View → ReadEvent → Served
served view (of_client client_event) = client_told view client_event
served view (link_up link starts) = link_opened view link starts
served view (link_says link read) = line_served view link read (get view.ends link)
served view (link_down link) = link_lost link (in_silence view)

-- the cause for which an event is refused, if it has one; it is the same whatever a line is read as
abbrev pub there : Option Client → Option ServerFault
there None = None
there (Some client) = Some ConnectionThere

abbrev pub not_there : Option Client → Option ServerFault
not_there None = Some NoSuchConnection
not_there (Some client) = None

abbrev pub link_there : Option End → Option ServerFault
link_there None = None
link_there (Some end) = Some LinkThere

abbrev pub no_link : Option End → Option ServerFault
no_link None = Some NoSuchLink
no_link (Some end) = None

abbrev pub fault_of : View → Event → Option ServerFault
fault_of view (Connect conn host) = there (client_of (machine_of view) conn)
fault_of view (Line conn line) = not_there (client_of (machine_of view) conn)
fault_of view (Gone conn) = not_there (client_of (machine_of view) conn)
fault_of view (LinkUp link starts) = link_there (get view.ends link)
fault_of view (LinkLine link line) = no_link (get view.ends link)
fault_of view (LinkDown link) = no_link (get view.ends link)

-- Each registered client of a server is a user of its room whose home it is, and each such user is
-- one client's.
abbrev pub AreMatched : View → Type 0
AreMatched view = IsMatched (machine_of view)

-- a connection that connects is not there yet
abbrev pub IsDueAt : View → ReadEvent → Type 0
IsDueAt view (of_client client_event) = IsDue (machine_of view) client_event
IsDueAt view read_event = ⊤

-- Whatever is served, they stay so.
abbrev pub ServedStaysMatched : Type 0
ServedStaysMatched =
    (view : View) → AreMatched view → IsWellFormed view.room → (read_event : ReadEvent)
    → IsDueAt view read_event
    → AreMatched (served view read_event).state

-- What a server is configured to be, and what it says of itself, is the same at two moments.
pub record IsSetAlike (old new : View) : Type 0 where
  pub peers : new.peers ≡ old.peers
  pub name : new.routes.name ≡ old.routes.name
  pub about : new.routes.about ≡ old.routes.about

-- It is so whatever is served.
abbrev pub ServedKeepsItsSetting : Type 0
ServedKeepsItsSetting =
    (view : View) (read_event : ReadEvent) → IsSetAlike view (served view read_event).state

-- A server and a room machine say the same of what a client does: put back, what the machine has is
-- what the server has; its machine is the machine's; and the same is put out.
pub record SaysTheSame (view : View) (client_event : ClientEvent) : Type 0 where
  pub whole : served view (of_client client_event) ≡ put_back view
      (handled (machine_of view) client_event)
  pub state : machine_of (served view (of_client client_event)).state
      ≡ (handled (machine_of view) client_event).state
  pub out : (served view (of_client client_event)).out
      ≡ (handled (machine_of view) client_event).out
  pub alone : IsAlone (served view (of_client client_event)).state

-- A server without links is one room.
abbrev pub LoneServerIsOneRoom : Type 0
LoneServerIsOneRoom = (view : View) (client_event : ClientEvent) → IsAlone view
    → SaysTheSame view client_event
