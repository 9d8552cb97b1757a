-- What handles the events of an engine, a server or a layer around one: what it promises of its
-- server, by whose word an engine knows who is connected and which events are refused.
--
-- A layer may give its server several events for one line of a link, or none, and may close a link
-- of itself. By a line of link 3 behind which link 3 is closed, its server is told that it is lost:
--   put out     the end of 3, and what the server says to clients of those who are gone
--   connected   all who were, but for 3
-- `Lemmas/Layers.antt` has of each of these that the promise is kept.
use Rattle.std.specs.Prelude.{◌≡◌, ℕ, ⊤, Bool, true, false, not, ◌&&◌, ◌||◌, Option, Some, Result}
use Rattle.std.specs.Prelude.{Ok, List, ◌++◌}
use Rattle.irc_batch.specs.Batches.{Sent}
use Rattle.irc_server.specs.declared.event.Event.{Event}
use Rattle.irc_server.specs.declared.event.ServerFault.{ServerFault}
use Rattle.irc_server.specs.declared.event.ServerFault.TheVariants.{Memory, Failed}
use Rattle.irc_server.specs.Connected.{client_comes, client_goes, has_client, has_link}
use Rattle.irc_server.specs.Connected.{is_client_ended, is_link_ended, is_there_after, link_comes}
use Rattle.irc_server.specs.Connected.{link_goes}
use Rattle.irc_server.specs.ReadEvents.{read_event_of}
use Rattle.irc_server.specs.Served.{ReadEvent, fault_of}
use Rattle.irc_stage.specs.View.{View}

-- What may come of handling an event: of what handles it, the event, what was put out before, the
-- answer, what has handled it, and what is put out behind it.
abbrev pub Handles : Type 0 → Type 1
Handles M = M → Event → List Sent → Result (Unit {0}) ServerFault → M → List Sent → Type 0

-- Whether anything may be due, at moments, and what may come of that: of the machine, the moment,
-- what was put out before, the answer, the machine and what is put out behind it. Of a server
-- nothing ever is.
pub data Dues (M : Type 0) : Type 1 where
  never_due : Dues M
  due_by : (M → ℕ → List Sent → Result (Unit {0}) ServerFault → M → List Sent → Type 0) → Dues M

abbrev pub is_never : {M : Type 0} → Dues M → Bool
is_never never_due = true
is_never (due_by is_due) = false

-- what comes of asking a machine for what is due
abbrev pub IsDue : {M : Type 0} → Dues M → M → ℕ → List Sent → Result (Unit {0}) ServerFault → M
    → List Sent → Type 0
IsDue never_due old moment before result new after =
    (result ≡ Ok tt) × (new ≡ old) × (after ≡ before)
IsDue (due_by is_due) old moment before result new after =
    is_due old moment before result new after

-- this is so, unless something may be due
abbrev pub UnlessDue : {M : Type 0} → Dues M → Type 0 → Type 0
UnlessDue never_due P = P
UnlessDue (due_by is_due) P = ⊤

-- the server of a server
abbrev pub itself : Option View → Option View
itself server = server

-- By an event, and by what is put out then, just those are there who were there or come, and
-- neither go nor are closed; and nobody else is closed.
pub record AreConnectedBy (old : View) (read_event : ReadEvent) (outs : List Sent)
    (new : View) : Type 0 where
  pub clients : (conn : ℕ) → has_client new conn
      ≡ is_there_after (has_client old conn) (client_comes conn read_event)
      (client_goes conn read_event) (is_client_ended conn outs)
  pub links : (link : ℕ) → has_link new link
      ≡ is_there_after (has_link old link) (link_comes link read_event) (link_goes link read_event)
      (is_link_ended link outs)
  pub clients_were_there : (conn : ℕ) → is_client_ended conn outs ≡ true
      → has_client old conn ≡ true
  pub links_were_there : (link : ℕ) → is_link_ended link outs ≡ true
      → (has_link old link || link_comes link read_event) ≡ true

-- what is put out by an event is behind what was put out before, and those are connected then
pub record IsConnectedBy (old : Option View) (event : Event) (before : List Sent)
    (new : Option View) (after : List Sent) : Type 0 where
  pub outs : List Sent
  pub after_is : after ≡ before ++ outs
  pub connected : (behind : View) → new ≡ Some behind
      → (was : View) × (old ≡ Some was) × AreConnectedBy was (read_event_of event) outs behind

-- By what is put out, just those are there who were there and are not closed.
pub record AreStillConnected (old : View) (outs : List Sent) (new : View) : Type 0 where
  pub clients : (conn : ℕ)
      → has_client new conn ≡ (has_client old conn && not (is_client_ended conn outs))
  pub links : (link : ℕ)
      → has_link new link ≡ (has_link old link && not (is_link_ended link outs))
  pub clients_were_there : (conn : ℕ) → is_client_ended conn outs ≡ true
      → has_client old conn ≡ true
  pub links_were_there : (link : ℕ) → is_link_ended link outs ≡ true → has_link old link ≡ true

pub record IsStillConnected (old : Option View) (before : List Sent) (new : Option View)
    (after : List Sent) : Type 0 where
  pub outs : List Sent
  pub after_is : after ≡ before ++ outs
  pub connected : (behind : View) → new ≡ Some behind
      → (was : View) × (old ≡ Some was) × AreStillConnected was outs behind

-- memory ran out, now or before
abbrev pub is_out_of_memory : ServerFault → Bool
is_out_of_memory Memory = true
is_out_of_memory Failed = true
is_out_of_memory fault = false

-- Why an event is not handled: memory runs out, or ran out before; or it is of somebody who is not
-- there, or of one who comes and is there, as a server refuses it.
pub data IsRefusal (server : Option View) (event : Event) : ServerFault → Type 0 where
  runs_out_now : IsRefusal server event Memory
  ran_out_before : IsRefusal server event Failed
  is_owed : (view : View) (fault : ServerFault) → server ≡ Some view
      → fault_of view event ≡ Some fault → IsRefusal server event fault
