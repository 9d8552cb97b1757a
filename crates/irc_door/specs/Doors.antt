-- A door in front of a machine: a server, or a layer around one. The machine is given each event as
-- it comes, one for one, and what it says to clients is written as the door's manner has it
-- (`Manners.antt`), in order; what it puts out on links goes as it is, and so does whom it closes.
-- Where nothing is asked for, all goes as it is (`IsPlainly`).
use Rattle.std.specs.Prelude.{◌≡◌, ℕ, true, Option, None, Result, Ok, Err, List, [], ◌∷◌, ◌++◌, map}
use Rattle.std.specs.List.{flat_map}
use Rattle.irc_batch.specs.Batches.{Sent, end_of, end_of_link, line_on, line_to}
use Rattle.irc_stage.specs.View.{View}
use Rattle.irc_server.specs.declared.event.Event.{Event}
use Rattle.irc_server.specs.declared.event.ServerFault.{ServerFault}
use Rattle.irc_engine.specs.Machines.{is_out_of_memory, due_by, never_due, Dues, Handles}
use Rattle.irc_door.specs.declared.door.Door.{Door}
use Rattle.irc_door.specs.declared.manner.Manner.{Manner}
use Rattle.irc_door.specs.declared.motd.Motd.{Motd}
use Rattle.irc_door.specs.Capabilities.{asked_of, Asked}
use Rattle.irc_door.specs.Manners.{is_plain, written_to}

abbrev pub to_client : ℕ → List (List ℕ) → List Sent
to_client conn = map (line_to conn)

abbrev pub said : Manner → Option Asked → Sent → List Sent
said manner asked (line_to conn line) = to_client conn (written_to manner asked conn line)
said manner asked (end_of conn) = end_of conn ∷ []
said manner asked (line_on link line) = line_on link line ∷ []
said manner asked (end_of_link link reason) = end_of_link link reason ∷ []

-- by a line CAP, or by another event
abbrev pub said_by : Manner → Option Asked → List Sent → List Sent
said_by manner asked = flat_map (said manner asked)

-- where nothing is asked for, what is put out is what the machine puts out
abbrev pub IsPlainly : Type 0
IsPlainly = (manner : Manner) → is_plain manner ≡ true → (event : Event) (outs : List Sent)
    → said_by manner (asked_of manner.programs event) outs ≡ outs

-- the server behind a door is its machine's
abbrev pub server_behind : {M : Type 0} → (M → Option View) → Door M → Option View
server_behind server_of door = server_of door.machine

-- it speaks as before, with another message of the day or with none
abbrev pub announcing : {M : Type 0} → Option Motd → Door M → Door M
announcing motd door = record door { manner = record door.manner { motd = motd } }

-- What may come of an event: it is handled, and what is put out is said; it is refused as the
-- machine refuses it, and nothing is put out; or memory runs out.
pub data IsTurned {M : Type 0} (handles : Handles M) (old : Door M) (event : Event)
    (before : List Sent) : Result (Unit {0}) ServerFault → Door M → List Sent → Type 0 where
  says : {new : Door M} {after : List Sent} (outs : List Sent)
      → handles old.machine event [] (Ok tt) new.machine outs → new.manner ≡ old.manner
      → after ≡ before ++ said_by old.manner (asked_of old.manner.programs event) outs
      → IsTurned handles old event before (Ok tt) new after
  refuses : {new : Door M} {after : List Sent} (fault : ServerFault) (outs : List Sent)
      → handles old.machine event [] (Err fault) new.machine outs → new.manner ≡ old.manner
      → after ≡ before → IsTurned handles old event before (Err fault) new after
  wants_memory : {new : Door M} {after : List Sent} (fault : ServerFault)
      → is_out_of_memory fault ≡ true → IsTurned handles old event before (Err fault) new after

-- The same of what is due at a moment; where nothing ever is of the machine, nothing is of it.
pub data IsSaid {M : Type 0}
    (is_due : M → ℕ → List Sent → Result (Unit {0}) ServerFault → M → List Sent → Type 0)
    (old : Door M) (moment : ℕ) (before : List Sent)
    : Result (Unit {0}) ServerFault → Door M → List Sent → Type 0 where
  says_due : {new : Door M} {after : List Sent} (outs : List Sent)
      → is_due old.machine moment [] (Ok tt) new.machine outs → new.manner ≡ old.manner
      → after ≡ before ++ said_by old.manner None outs
      → IsSaid is_due old moment before (Ok tt) new after
  has_no_memory : {new : Door M} {after : List Sent} (fault : ServerFault)
      → is_out_of_memory fault ≡ true → IsSaid is_due old moment before (Err fault) new after

abbrev pub dues_by : {M : Type 0} → Dues M → Dues (Door M)
dues_by never_due = never_due
dues_by (due_by is_due) = due_by (IsSaid is_due)
