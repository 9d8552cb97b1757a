-- A hold: an event machine around another, a server or a layer around one. What it is given is that
-- machine's as it comes, but for the USER of a client that negotiates capabilities, which waits for
-- the end of that (`Lines.antt`); what that puts out goes as it is. Where nothing waits, it is that
-- machine.
--
-- What client 1 says, what the machine is given, and what is held of 1 behind it:
--   CAP REQ :sasl         CAP REQ :sasl         USER, which has not come
--   NICK al               NICK al               the same
--   USER u 0 * :Al        nothing               USER u 0 * :Al
--   USER v 0 * :Bo        nothing               USER v 0 * :Bo
--   CAP END               USER v 0 * :Bo        nothing, and 1 is a user
--   CAP REQ :sasl         CAP REQ :sasl         nothing, as 1 is a user
use Rattle.std.specs.Prelude.{◌≡◌, ℕ, Bool, true, false, not, ◌&&◌, Option, Some, None, is_some}
use Rattle.std.specs.Prelude.{Result, Ok, Err, List, if◌then◌else◌, nat_eq}
use Rattle.std.specs.Option.{is_none, option_map_or}
use Rattle.std.specs.Ordering.{nat_cmp}
use Rattle.std.specs.BTreeMap.{BTreeMap, get}
use Rattle.arrayvec.specs.ArrayVec.{ArrayVec}
use Rattle.irc_batch.specs.Batches.{Sent}
use Rattle.irc_stage.specs.View.{View}
use Rattle.irc_server.specs.declared.event.Event.{Event}
use Rattle.irc_server.specs.declared.event.Event.TheVariants.{Connect, Line, Gone, LinkUp, LinkLine}
use Rattle.irc_server.specs.declared.event.Event.TheVariants.{LinkDown}
use Rattle.irc_server.specs.declared.event.ServerFault.{ServerFault}
use Rattle.irc_server.specs.declared.event.ServerFault.TheVariants.{Memory}
use Rattle.irc_server.specs.Connected.{has_client, has_user}
use Rattle.irc_engine.specs.Machines.{due_by, never_due, Dues, Handles}
use Rattle.irc_hold.specs.declared.hold.Held.{Held}
use Rattle.irc_hold.specs.declared.hold.Held.TheVariants.{Waits, Kept}
use Rattle.irc_hold.specs.declared.hold.Hold.{Hold}
use Rattle.irc_hold.specs.declared.hold.Negotiations.{Negotiations}
use Rattle.irc_hold.specs.declared.hold.Negotiations.TheVariants.{Off, Awaited}
use Rattle.irc_hold.specs.declared.line.Fate.{Fate}
use Rattle.irc_hold.specs.declared.line.Fate.TheVariants.{Passes, Begins, Keeps, Ends}
use Rattle.irc_hold.specs.Lines.{line_fate}

-- ---- what is held of each client: nothing, a USER that has not come, or a line

abbrev pub Helds : Type 0
Helds = ℕ → Option Held

abbrev pub held_at : BTreeMap ℕ Held → Helds
held_at helds conn = get nat_cmp helds conn

-- this is held of a client from now on, or nothing is
abbrev pub with_held : ℕ → Option Held → Helds → Helds
with_held conn held helds q = if nat_eq conn q then held else helds q

-- the line that is kept, if one is
abbrev pub kept_of : Option Held → Option (ArrayVec ℕ)
kept_of None = None
kept_of (Some Waits) = None
kept_of (Some (Kept line)) = Some line

-- ---- who negotiates

abbrev pub is_there : Option View → ℕ → Bool
is_there server conn = option_map_or (λ view. has_client view conn) server false

abbrev pub is_registered : Option View → ℕ → Bool
is_registered server conn = option_map_or (λ view. has_user view conn) server false

-- a client is there, and is no user yet
abbrev pub is_waiting : Option View → ℕ → Bool
is_waiting server conn = is_there server conn && not (is_registered server conn)

-- USER of a client may be held
abbrev pub awaits : Negotiations → Option View → ℕ → Bool
awaits Off server conn = false
awaits Awaited server conn = is_waiting server conn

-- ---- an event

-- what becomes of an event
abbrev pub fate_at : Negotiations → Option View → Helds → Event → Fate
fate_at negotiations server helds (Line conn line) =
    if awaits negotiations server conn then line_fate (is_some (helds conn)) line.items else Passes
fate_at negotiations server helds (Connect conn host) = Passes
fate_at negotiations server helds (Gone conn) = Passes
fate_at negotiations server helds (LinkUp link name) = Passes
fate_at negotiations server helds (LinkLine link line) = Passes
fate_at negotiations server helds (LinkDown link) = Passes

-- the client that an event is of; any number, where it is of a link
abbrev pub conn_of : Event → ℕ
conn_of (Connect conn host) = conn
conn_of (Line conn line) = conn
conn_of (Gone conn) = conn
conn_of (LinkUp link name) = 0
conn_of (LinkLine link line) = 0
conn_of (LinkDown link) = 0

-- a line that was kept in place of an event of the same client, if one was
abbrev pub in_place_of : Event → Option (ArrayVec ℕ) → Event
in_place_of event None = event
in_place_of event (Some line) = Line (conn_of event) line

-- what the machine is given, where this is held of the client
abbrev pub given : Fate → Option Held → Event → Option Event
given Passes held event = Some event
given Begins held event = Some event
given Keeps held event = None
given Ends held event = Some (in_place_of event (kept_of held))

-- USER is held from now on; what is kept stays
abbrev pub begun : Option Held → Option Held
begun None = Some Waits
begun (Some held) = Some held

-- what is held of a client behind a line
abbrev pub held_line : Fate → ArrayVec ℕ → Option Held → Option Held
held_line Passes line held = held
held_line Begins line held = begun held
held_line Keeps line held = Some (Kept line)
held_line Ends line held = None

-- What is held behind an event, or behind what the machine was given in its place, by who is a user
-- of the server then. Of one that comes or goes, and of a user, nothing is.
abbrev pub held_behind : Fate → Option View → Event → Helds → Helds
held_behind fate server (Line conn line) helds =
    with_held conn (if is_waiting server conn then held_line fate line (helds conn) else None) helds
held_behind fate server (Connect conn host) helds = with_held conn None helds
held_behind fate server (Gone conn) helds = with_held conn None helds
held_behind fate server (LinkUp link name) helds = helds
held_behind fate server (LinkLine link line) helds = helds
held_behind fate server (LinkDown link) helds = helds

-- it stays as it is behind a line that the machine is given, whoever is a user then
abbrev pub is_free : Fate → Option Held → Bool
is_free Passes held = is_none held
is_free Begins held = false
is_free Keeps held = false
is_free Ends held = false

-- whether holding takes memory
abbrev pub takes_memory : Fate → Bool
takes_memory Passes = false
takes_memory Begins = true
takes_memory Keeps = true
takes_memory Ends = false

-- ---- a hold

-- one that holds nothing
pub record IsNewHold {M : Type 0} (machine : M) (negotiations : Negotiations) (hold : Hold M)
    : Type 0 where
  pub machine_is : hold.machine ≡ machine
  pub negotiations_is : hold.negotiations ≡ negotiations
  pub nothing_held : held_at hold.helds ≡ (λ conn. None)

-- the server behind a hold is its machine's
abbrev pub server_behind : {M : Type 0} → (M → Option View) → Hold M → Option View
server_behind server_of hold = server_of hold.machine

-- What may come of an event that the machine is given: it is handled; it is refused, and what is
-- held stays; or memory runs out, where something is to be held.
pub data IsGiven {M : Type 0} (server_of : M → Option View) (handles : Handles M) (fate : Fate)
    (old : Hold M) (event : Event) (before : List Sent)
    : Result (Unit {0}) ServerFault → Hold M → List Sent → Type 0 where
  gives : {new : Hold M} {after : List Sent}
      → handles old.machine event before (Ok tt) new.machine after
      → held_at new.helds
      ≡ held_behind fate (server_of new.machine) event (held_at old.helds)
      → new.negotiations ≡ old.negotiations
      → IsGiven server_of handles fate old event before (Ok tt) new after
  refuses : {new : Hold M} {after : List Sent} (fault : ServerFault)
      → handles old.machine event before (Err fault) new.machine after
      → held_at new.helds ≡ held_at old.helds → new.negotiations ≡ old.negotiations
      → IsGiven server_of handles fate old event before (Err fault) new after
  lacks_memory : {new : Hold M} {after : List Sent} → takes_memory fate ≡ true
      → IsGiven server_of handles fate old event before (Err Memory) new after

-- What may come of an event of which the machine is given nothing: it is kept, or there is no
-- memory for it. The machine is as it was.
pub data IsKept {M : Type 0} (server_of : M → Option View) (fate : Fate) (old : Hold M)
    (event : Event) : Result (Unit {0}) ServerFault → Hold M → Type 0 where
  keeps : {new : Hold M} → new.machine ≡ old.machine
      → held_at new.helds
      ≡ held_behind fate (server_of old.machine) event (held_at old.helds)
      → new.negotiations ≡ old.negotiations → IsKept server_of fate old event (Ok tt) new
  has_no_room : {new : Hold M} → new.machine ≡ old.machine → takes_memory fate ≡ true
      → IsKept server_of fate old event (Err Memory) new

-- the one or the other; where nothing is given nothing is put out
abbrev pub IsDone : {M : Type 0} → (M → Option View) → Handles M → Fate → Option Event → Hold M
    → Event → List Sent → Result (Unit {0}) ServerFault → Hold M → List Sent → Type 0
IsDone server_of handles fate (Some one) old event before result new after =
    IsGiven server_of handles fate old one before result new after
IsDone server_of handles fate None old event before result new after =
    IsKept server_of fate old event result new × (after ≡ before)

-- what becomes of an event that a hold is given
abbrev pub fate_by : {M : Type 0} → (M → Option View) → Hold M → Event → Fate
fate_by server_of old event =
    fate_at old.negotiations (server_of old.machine) (held_at old.helds) event

-- What may come of an event: the machine is given what it is to be given, if anything.
abbrev pub IsHeldBack : {M : Type 0} → (M → Option View) → Handles M → Handles (Hold M)
IsHeldBack server_of handles old event =
    IsDone server_of handles (fate_by server_of old event)
    (given (fate_by server_of old event) (held_at old.helds (conn_of event)) event) old event

-- of a client that is a user, and of one that is not there, each line is the machine's
abbrev pub OthersPass : Type 0
OthersPass =
    (negotiations : Negotiations) (server : Option View) (helds : Helds) (conn : ℕ)
    (line : ArrayVec ℕ) → is_waiting server conn ≡ false
    → fate_at negotiations server helds (Line conn line) ≡ Passes

-- where nothing waits each answer is the machine's
abbrev pub OffIsTheMachine : {M : Type 0} → (M → Option View) → Handles M → Type 0
OffIsTheMachine {M} server_of handles =
    (old new : Hold M) (event : Event) (before after : List Sent)
    (result : Result (Unit {0}) ServerFault) → old.negotiations ≡ Off
    → IsHeldBack server_of handles old event before result new after
    → handles old.machine event before result new.machine after

-- ---- what is due

-- what is due is the machine's, and what is held stays
pub record IsDueWithin {M : Type 0}
    (is_due : M → ℕ → List Sent → Result (Unit {0}) ServerFault → M → List Sent → Type 0)
    (old : Hold M) (moment : ℕ) (before : List Sent) (result : Result (Unit {0}) ServerFault)
    (new : Hold M) (after : List Sent) : Type 0 where
  pub due : is_due old.machine moment before result new.machine after
  pub helds : held_at new.helds ≡ held_at old.helds
  pub negotiations : new.negotiations ≡ old.negotiations

-- where nothing ever is due of the machine, nothing is of the hold
abbrev pub dues_by : {M : Type 0} → Dues M → Dues (Hold M)
dues_by never_due = never_due
dues_by (due_by is_due) = due_by (IsDueWithin is_due)
