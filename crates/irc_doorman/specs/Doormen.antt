-- A doorman: an event machine around another, a server or a layer around one. What it is given is
-- that machine's as it comes, but for who is turned away; what that puts out goes as it is, and the
-- doorman says some lines of its own (`Texts.antt`). Where nothing is asked, it is that machine.
--
-- With a password, what the machine is given of a client, and what the client is told:
--   PASS wrong, NICK al      PASS wrong; then that it is gone      464, ERROR, and it is closed
--   PASS                     PASS                                  461
--   PASS right, NICK al ..   all of it                             what the server says
-- With 60 seconds after which who says nothing is asked: they are looked for once a second, by the
-- moment that is handed in. The moment of a line is the one that was handed in last before it.
--   al says nothing for 60 s               al is told `PING :a.net`
--   al says something                      it is asked again 60 s behind that
--   al says nothing for 60 s more          the machine is given `QUIT :Ping timeout` of al
use Rattle.std.specs.Prelude.{◌≡◌, ℕ, ◌*◌, Bool, true, false, not, Option, Some, None}
use Rattle.std.specs.Prelude.{Result, Ok, Err, List, [], ◌∷◌, ◌++◌, codes, filter, map, nat_eq}
use Rattle.std.specs.Prelude.{nat_lt, if◌then◌else◌}
use Rattle.std.specs.Option.{option_map, option_map_or}
use Rattle.std.specs.Ordering.{nat_cmp}
use Rattle.std.specs.BTreeMap.{BTreeMap, get}
use Rattle.irc_line.specs.Messages.{text}
use Rattle.irc_batch.specs.Batches.{Sent, end_of, line_to}
use Rattle.irc_moments.specs.Moments.{later}
use Rattle.irc_stage.specs.View.{View}
use Rattle.irc_server.specs.declared.event.Event.{Event}
use Rattle.irc_server.specs.declared.event.Event.TheVariants.{Connect, Line, Gone, LinkUp, LinkLine}
use Rattle.irc_server.specs.declared.event.Event.TheVariants.{LinkDown}
use Rattle.irc_server.specs.declared.event.ServerFault.{ServerFault}
use Rattle.irc_server.specs.Connected.{has_client}
use Rattle.irc_engine.specs.Machines.{due_by, is_out_of_memory, Dues, Handles, IsDue}
use Rattle.irc_doorman.specs.declared.asks.Asks.{Asks}
use Rattle.irc_doorman.specs.declared.doorman.Doorman.{Doorman}
use Rattle.irc_doorman.specs.declared.guest.Fate.{Fate}
use Rattle.irc_doorman.specs.declared.guest.Fate.TheVariants.{Passes, LacksWord, TurnedAway}
use Rattle.irc_doorman.specs.declared.guest.Guest.{Guest}
use Rattle.irc_doorman.specs.Guests.{asks_anything, fate_of, guest_asked, guest_hearing, is_silent}
use Rattle.irc_doorman.specs.Guests.{new_guest}
use Rattle.irc_doorman.specs.Texts.{bad_password, closing, lacking, ping}

-- what is known of each client
abbrev pub Guests : Type 0
Guests = ℕ → Option Guest

abbrev pub guest_at : BTreeMap ℕ Guest → Guests
guest_at guests conn = get nat_cmp guests conn

-- this is known of a client from now on, or nothing is
abbrev pub with_guest : ℕ → Option Guest → Guests → Guests
with_guest conn guest guests q = if nat_eq conn q then guest else guests q

-- what is known of a client has changed so
abbrev pub change_guest : ℕ → (Guest → Guest) → Guests → Guests
change_guest conn change guests q =
    if nat_eq conn q then option_map change (guests q) else guests q

-- the server behind a doorman is its machine's
abbrev pub server_behind : {M : Type 0} → (M → Option View) → Doorman M → Option View
server_behind server_of doorman = server_of doorman.machine

-- a doorman that has seen nobody
pub record IsNewDoorman {M : Type 0} (machine : M) (asks : Asks) (doorman : Doorman M) : Type 0
  where
    pub machine_is : doorman.machine ≡ machine
    pub asks_is : doorman.asks ≡ asks
    pub nobody_known : guest_at doorman.guests ≡ (λ conn. None)
    pub moment_is : doorman.moment ≡ 0
    pub look_is : doorman.next_look ≡ 0

-- whether a client is there
abbrev pub is_there : Option View → ℕ → Bool
is_there server conn = option_map_or (λ view. has_client view conn) server false

-- ---- an event

-- what becomes of a line of a client
abbrev pub line_fate : Bool → Option Guest → List ℕ → Fate
line_fate true (Some guest) line = fate_of line guest.standing
line_fate true None line = Passes
line_fate false guest line = Passes

-- what becomes of an event
abbrev pub fate_at : Option View → Guests → Event → Fate
fate_at server guests (Line conn line) =
    line_fate (is_there server conn) (guests conn) line.items
fate_at server guests (Connect conn host) = Passes
fate_at server guests (Gone conn) = Passes
fate_at server guests (LinkUp link name) = Passes
fate_at server guests (LinkLine link line) = Passes
fate_at server guests (LinkDown link) = Passes

-- the client that an event is of; any number, where it is of a link
abbrev pub conn_of : Event → ℕ
conn_of (Connect conn host) = conn
conn_of (Line conn line) = conn
conn_of (Gone conn) = conn
conn_of (LinkUp link name) = 0
conn_of (LinkLine link line) = 0
conn_of (LinkDown link) = 0

-- what the machine is given
abbrev pub given : Fate → Event → Event
given TurnedAway event = Gone (conn_of event)
given Passes event = event
given LacksWord event = event

-- what the doorman says behind that
abbrev pub told : Asks → Fate → ℕ → List Sent
told asks Passes conn = []
told asks LacksWord conn = line_to conn (text (lacking asks.server)) ∷ []
told asks TurnedAway conn = line_to conn (text (bad_password asks.server))
    ∷ line_to conn (text closing) ∷ end_of conn ∷ []

-- one that comes is known where anything is asked
abbrev pub with_new : Asks → ℕ → ℕ → Guests → Guests
with_new asks moment conn guests =
    if asks_anything asks then with_guest conn (Some (new_guest asks moment)) guests else guests

-- what is known behind an event that the machine was given
abbrev pub guests_behind : Asks → ℕ → Event → Guests → Guests
guests_behind asks moment (Connect conn host) guests = with_new asks moment conn guests
guests_behind asks moment (Line conn line) guests =
    change_guest conn (guest_hearing asks line.items moment) guests
guests_behind asks moment (Gone conn) guests = with_guest conn None guests
guests_behind asks moment (LinkUp link name) guests = guests
guests_behind asks moment (LinkLine link line) guests = guests
guests_behind asks moment (LinkDown link) guests = guests

-- nothing of a doorman has changed but its machine and what is known of clients
pub record IsSameDoorman {M : Type 0} (old new : Doorman M) : Type 0 where
  pub asks : new.asks ≡ old.asks
  pub moment : new.moment ≡ old.moment
  pub next_look : new.next_look ≡ old.next_look

-- What may come of an event that the machine is given: it is handled; it is refused; or memory runs
-- out.
pub data IsPassed {M : Type 0} (handles : Handles M) (old : Doorman M) (event : Event)
    (before : List Sent) : Result (Unit {0}) ServerFault → Doorman M → List Sent → Type 0 where
  passes : {new : Doorman M} {after : List Sent}
      → handles old.machine event before (Ok tt) new.machine after
      → guest_at new.guests ≡ guests_behind old.asks old.moment event (guest_at old.guests)
      → IsSameDoorman old new → IsPassed handles old event before (Ok tt) new after
  refuses : {new : Doorman M} {after : List Sent} (fault : ServerFault)
      → handles old.machine event before (Err fault) new.machine after
      → guest_at new.guests ≡ guest_at old.guests
      → IsSameDoorman old new → IsPassed handles old event before (Err fault) new after
  wants_memory : {new : Doorman M} {after : List Sent} (fault : ServerFault)
      → is_out_of_memory fault ≡ true → IsPassed handles old event before (Err fault) new after

-- What may come of an event: the machine is given what it is to be, and behind that the doorman
-- says what it says.
pub data IsAdmitted {M : Type 0} (server_of : M → Option View) (handles : Handles M)
    (old : Doorman M) (event : Event) (before : List Sent)
    : Result (Unit {0}) ServerFault → Doorman M → List Sent → Type 0 where
  admits : {new : Doorman M} {after : List Sent} (fate : Fate) (between : List Sent)
      → fate ≡ fate_at (server_of old.machine) (guest_at old.guests) event
      → IsPassed handles old (given fate event) before (Ok tt) new between
      → after ≡ between ++ told old.asks fate (conn_of event)
      → IsAdmitted server_of handles old event before (Ok tt) new after
  does_not : {new : Doorman M} {after : List Sent} (fate : Fate) (fault : ServerFault)
      → fate ≡ fate_at (server_of old.machine) (guest_at old.guests) event
      → IsPassed handles old (given fate event) before (Err fault) new after
      → IsAdmitted server_of handles old event before (Err fault) new after
  has_no_memory : {new : Doorman M} {after : List Sent} (fault : ServerFault)
      → is_out_of_memory fault ≡ true
      → IsAdmitted server_of handles old event before (Err fault) new after

-- ---- what is due

-- what was known, and put out, before something and behind it
pub record State (M : Type 0) : Type 0 where
  pub machine : M
  pub guests : Guests
  pub outs : List Sent

abbrev pub state_of : {M : Type 0} → M → Guests → List Sent → State M
state_of machine guests outs = record { machine = machine; guests = guests; outs = outs }

-- those of a doorman, and what is put out
abbrev pub state_with : {M : Type 0} → Doorman M → List Sent → State M
state_with doorman outs = state_of doorman.machine (guest_at doorman.guests) outs

abbrev pub with_guests : {M : Type 0} → Guests → State M → State M
with_guests guests state = record state { guests = guests }

-- the line that the machine is given of a client that does not answer (RFC 2812 section 3.1.7)
abbrev pub quits : ℕ → Event
quits conn = Line conn (record { items = codes "QUIT :Ping timeout" })

-- What comes of asking a client that is silent: it is not there any more, and is forgotten; it is
-- asked whether it is there; or it was, and its QUIT is the machine's.
pub data IsAsked {M : Type 0} (server_of : M → Option View) (handles : Handles M) (asks : Asks)
    (moment conn : ℕ) (old : State M) : State M → Type 0 where
  is_gone : is_there (server_of old.machine) conn ≡ false
      → IsAsked server_of handles asks moment conn old
      (with_guests (with_guest conn None old.guests) old)
  is_unknown : old.guests conn ≡ None → IsAsked server_of handles asks moment conn old old
  asks_it : (guest : Guest) → is_there (server_of old.machine) conn ≡ true
      → old.guests conn ≡ Some guest → guest.is_asked ≡ false
      → IsAsked server_of handles asks moment conn old (record old {
        guests = change_guest conn (guest_asked moment) old.guests;
        outs = old.outs ++ line_to conn (text (ping asks.server)) ∷ [];
      })
  ends_it : (guest : Guest) (new : State M) → is_there (server_of old.machine) conn ≡ true
      → old.guests conn ≡ Some guest → guest.is_asked ≡ true
      → handles old.machine (quits conn) old.outs (Ok tt) new.machine new.outs
      → new.guests ≡ with_guest conn None old.guests
      → IsAsked server_of handles asks moment conn old new

-- one after another
pub data AreAsked {M : Type 0} (server_of : M → Option View) (handles : Handles M) (asks : Asks)
    (moment : ℕ) : List ℕ → State M → State M → Type 0 where
  nobody : {old : State M} → AreAsked server_of handles asks moment [] old old
  one : {conn : ℕ} {conns : List ℕ} {old between new : State M}
      → IsAsked server_of handles asks moment conn old between
      → AreAsked server_of handles asks moment conns between new
      → AreAsked server_of handles asks moment (conn ∷ conns) old new

-- the clients that are silent, in the order of their numbers
abbrev pub silent_among : ℕ → ℕ → List (ℕ × Guest) → List ℕ
silent_among silence moment known =
    map (λ one. one.0) (filter (λ one. is_silent silence moment one.1) known)

abbrev pub silent_of : ℕ → ℕ → BTreeMap ℕ Guest → List ℕ
silent_of silence moment guests = silent_among silence moment guests.entries

-- whether they are looked for at a moment, which is once a second
abbrev pub looks_at : Option ℕ → ℕ → ℕ → Bool
looks_at None next_look moment = false
looks_at (Some seconds) next_look moment = not (nat_lt moment next_look)

-- whom a doorman asks at a moment
abbrev pub silent_at : Option ℕ → ℕ → ℕ → BTreeMap ℕ Guest → List ℕ
silent_at None next_look moment guests = []
silent_at (Some seconds) next_look moment guests =
    if looks_at (Some seconds) next_look moment then silent_of (seconds * 1000) moment guests
    else []

-- when they are looked for next
abbrev pub next_look_behind : {M : Type 0} → Doorman M → ℕ → ℕ
next_look_behind doorman moment =
    if looks_at doorman.asks.ping_after doorman.next_look moment then later moment 1000
    else doorman.next_look

-- What may come of what is due: what is due of the machine is done, and those who are silent are
-- asked; or memory runs out.
pub data IsWatched {M : Type 0} (server_of : M → Option View) (handles : Handles M)
    (dues : Dues M) (old : Doorman M) (moment : ℕ) (before : List Sent)
    : Result (Unit {0}) ServerFault → Doorman M → List Sent → Type 0 where
  watches : {new : Doorman M} {after : List Sent} (machine : M) (between : List Sent)
      → IsDue dues old.machine moment before (Ok tt) machine between
      → AreAsked server_of handles old.asks moment
      (silent_at old.asks.ping_after old.next_look moment old.guests)
      (state_of machine (guest_at old.guests) between) (state_with new after)
      → new.asks ≡ old.asks → new.moment ≡ moment → new.next_look ≡ next_look_behind old moment
      → IsWatched server_of handles dues old moment before (Ok tt) new after
  lacks_memory : {new : Doorman M} {after : List Sent} (fault : ServerFault)
      → is_out_of_memory fault ≡ true
      → IsWatched server_of handles dues old moment before (Err fault) new after

abbrev pub watched_by : {M : Type 0} → (M → Option View) → Handles M → Dues M → Dues (Doorman M)
watched_by server_of handles dues = due_by (IsWatched server_of handles dues)

-- ---- where nothing is asked

-- nothing is known of any client
abbrev pub KnowsNobody : {M : Type 0} → Doorman M → Type 0
KnowsNobody doorman = guest_at doorman.guests ≡ (λ conn. None)

-- where nothing is asked each event is the machine's, and all that is put out is its own
abbrev pub PassesAll : {M : Type 0} → (M → Option View) → Handles M → Type 0
PassesAll {M} server_of handles =
    (old new : Doorman M) (event : Event) (before after : List Sent)
    → asks_anything old.asks ≡ false → KnowsNobody old
    → IsAdmitted server_of handles old event before (Ok tt) new after
    → handles old.machine event before (Ok tt) new.machine after × KnowsNobody new

-- and so is all that is due
abbrev pub WatchesNobody : {M : Type 0} → (M → Option View) → Handles M → Dues M → Type 0
WatchesNobody {M} server_of handles dues =
    (old new : Doorman M) (moment : ℕ) (before after : List Sent) → old.asks.ping_after ≡ None
    → IsWatched server_of handles dues old moment before (Ok tt) new after
    → IsDue dues old.machine moment before (Ok tt) new.machine after
    × (guest_at new.guests ≡ guest_at old.guests)
