-- What a turn of an engine does: the events that it passes to what handles them, the calls that it
-- makes of the wire, and what becomes of each connection. What handles them is a server, or a
-- machine around one; each word is of any machine (`RanBy`) and, at the end, of a server (`Ran`).
use Rattle.std.specs.Prelude.{◌≡◌, ℕ, ◌+◌, ◌≤◌, Bool, true, false, ◌&&◌, ◌||◌, nat_eq, is_some}
use Rattle.std.specs.Prelude.{Option, Some, None, Result, Ok, List, [], ◌∷◌, ◌++◌, if◌then◌else◌}
use Rattle.std.specs.List.{filter, AllByRecursion}
use Rattle.arrayvec.specs.ArrayVec.{ArrayVec}
use Rattle.irc_outbox.specs.declared.wire.Ready.{Ready}
use Rattle.irc_outbox.specs.declared.wire.Ready.TheVariants.{Client, Linked, Idle, Readable}
use Rattle.irc_outbox.specs.declared.wire.Ready.TheVariants.{Writable}
use Rattle.irc_outbox.specs.declared.wire.Got.{Got}
use Rattle.irc_outbox.specs.declared.wire.IoFault.{IoFault}
use Rattle.irc_outbox.specs.Calls.{Call, asks, reads, Adds}
use Rattle.irc_server.specs.declared.event.Event.{Event}
use Rattle.irc_server.specs.declared.event.ServerFault.{ServerFault}
use Rattle.irc_server.specs.declared.event.Event.TheVariants.{Connect, LinkUp}
use Rattle.irc_batch.specs.Batches.{Sent}
use Rattle.irc_stage.specs.View.{View}
use Rattle.irc_server.specs.ReadEvents.{IsHandled}
use Rattle.irc_engine.specs.declared.engine.OutboxSizes.{OutboxSizes}
use Rattle.irc_engine.specs.declared.kind.ConnectionKind.{ConnectionKind}
use Rattle.irc_engine.specs.declared.kind.ConnectionKind.TheVariants as kinds
use Rattle.irc_engine.specs.declared.connection_table.Connection.{Connection}
use Rattle.irc_engine.specs.Carrying.{has_some_at, is_closed_by, is_done_at, is_exchange}
use Rattle.irc_engine.specs.Carrying.{is_open_at, AddsAll, Fate, fresh_connection, IsOfKind}
use Rattle.irc_engine.specs.Carrying.{KeepsKind}
use Rattle.irc_engine.specs.Hearing.{begun_at, end_event_of, line_event_of, lines_by, nothing_of}
use Rattle.irc_engine.specs.Hearing.{only_of, times_gone, Hears}
use Rattle.irc_engine.specs.Machines.{due_by, itself, never_due, Dues, Handles}
use Rattle.irc_engine.specs.Writing.{one_if, WritesEach}
use Rattle.irc_engine.specs.Noting.{out_signs, signs_by}
use Rattle.irc_journal.specs.declared.journal.Journal.{Journal}
use Rattle.irc_journal.specs.Signs.{EntersAll}

-- An engine at one moment: what handles its events, a server or a machine around one, the journal
-- of its links, its wire, the connections, those that were lost and of which the server has yet to
-- be told, with their kinds, those that are noted to be written to, and how many bytes it reads at
-- most.
pub record MomentOf (W M : Type 0) : Type 0 where
  pub server : M
  pub journal : Journal
  pub wire : W
  pub connections : ℕ → Option Connection
  pub lost : ℕ → Option ConnectionKind
  pub waiting : ℕ → Bool
  pub read_room : ℕ

-- of an engine of a server
abbrev pub Moment : Type 0 → Type 0
Moment W = MomentOf W (Option View)

-- how a connection stands with the server: it was lost and the server has yet to be told, or it is
-- open, or neither
pub record ConnectionState : Type 0 where
  pub lost : Bool
  pub is_open : Bool

abbrev pub standing_of : {W M : Type 0} → ℕ → MomentOf W M → ConnectionState
standing_of conn now =
    record { lost = is_some (now.lost conn); is_open = is_open_at (now.connections conn) }

-- whether the server knows of it
abbrev pub server_knows : ConnectionState → Bool
server_knows now = now.lost || now.is_open

-- it is not lost and open at once
abbrev pub IsApart : ConnectionState → Type 0
IsApart now = (now.lost && now.is_open) ≡ false

-- the server has been told of each connection that was lost
abbrev pub AllTold : {W M : Type 0} → MomentOf W M → Type 0
AllTold now = (conn : ℕ) → now.lost conn ≡ None

-- An engine between two turns: the server has been told of each connection that was lost, just
-- those with bytes to write are noted, and what the server has closed is closed on the wire as soon
-- as nothing is left to write.
pub record IsInOrder {W M : Type 0} (now : MomentOf W M) : Type 0 where
  pub all_told : AllTold now
  pub noted : (conn : ℕ) → now.waiting conn ≡ has_some_at (now.connections conn)
  pub none_done : (conn : ℕ) → is_done_at (now.connections conn) ≡ false

-- who is asked for events: what handles them, and the journal of its links with it
pub record AskedOf (M : Type 0) : Type 0 where
  pub server : M
  pub journal : Journal

abbrev pub ServerAsked : Type 0
ServerAsked = AskedOf (Option View)

abbrev pub asked : {M : Type 0} → M → Journal → AskedOf M
asked server journal = record { server = server; journal = journal }

abbrev pub asked_at : {W M : Type 0} → MomentOf W M → AskedOf M
asked_at now = asked now.server now.journal

module _ {M : Type 0} (server_of : M → Option View) (handles : Handles M) where
  -- it is asked for an event, and refuses it not; what comes to light of links by it is entered in
  -- the journal, and then it is asked for others
  pub record AskedFirstBy (old : AskedOf M) (event : Event) (outs : List Sent)
      (rest : AskedOf M → List Sent → Type 0) : Type 0 where
    pub between : AskedOf M
    pub first : List Sent
    pub more : List Sent
    pub is_handled : handles old.server event [] (Ok tt) between.server first
    pub is_noted : EntersAll (signs_by event (server_of between.server) first) old.journal
        between.journal
    pub outs_are : outs ≡ first ++ more
    pub rest_is : rest between more

  -- It is asked for these events, one after another, and this is all that it puts out.
  abbrev pub AreAskedBy : AskedOf M → List Event → List Sent → AskedOf M → Type 0
  AreAskedBy old [] outs new = (outs ≡ []) × (new ≡ old)
  AreAskedBy old (event ∷ events) outs new =
      AskedFirstBy old event outs (λ between more. AreAskedBy between events more new)

-- How often the server is told that one connection is gone: once where it was open or lost before
-- and is neither any more, and else never; nor where the server has closed it before.
pub record IsTold (conn : ℕ) (was : ConnectionState) (events : List Event) (outs : List Sent)
    (now : ConnectionState) : Type 0 where
  pub at_most : times_gone conn events + one_if (server_knows now) ≤ one_if (server_knows was)
  pub unless_closed : is_closed_by conn outs ≡ false
      → times_gone conn events + one_if (server_knows now) ≡ one_if (server_knows was)
  pub apart : IsApart now

abbrev pub TellsServer : ℕ → ConnectionState → List Event → List Sent → ConnectionState → Type 0
TellsServer conn was events outs now = IsApart was → IsTold conn was events outs now

-- An event tells a line of a connection, or that it is gone, by the kind that it is of.
pub data IsNews {W M : Type 0} (now : MomentOf W M) (event : Event) : Type 0 where
  a_line : (kind : ConnectionKind) (conn : ℕ) (line : ArrayVec ℕ)
      → IsOfKind kind (now.connections conn)
      (now.lost conn) → event ≡ line_event_of kind conn line → IsNews now event
  an_end : (kind : ConnectionKind) (conn : ℕ) → IsOfKind kind (now.connections conn) (now.lost conn)
      → event ≡ end_event_of kind conn → IsNews now event

-- This connection was lost, as one of this kind, and none that has a lower number.
pub record IsLowestLost (conn : ℕ) (kind : ConnectionKind)
    (lost : ℕ → Option ConnectionKind) : Type 0 where
  pub is_lost : lost conn ≡ Some kind
  pub is_lowest : (q : ℕ) → is_some (lost q) ≡ true → conn ≤ q

-- ---- of any machine

module _ {W M : Type 0} (is_after : W → List Call → Type 0) (server_of : M → Option View)
    (handles : Handles M) where
  -- From one moment to another: the machine was asked for some events, calls were made of the wire,
  -- and each connection has met its fate. Just these of the calls asked what is ready, read or
  -- wrote. The events begin with the given ones; behind them are the lines that the bytes of each
  -- connection complete, and that connections are gone, each told by the kind of its connection.
  pub record RanBy (exchanges : List Call) (first : List Event) (came : ℕ → List ℕ)
      (old new : MomentOf W M) : Type 0 where
    pub events : List Event
    pub outs : List Sent
    pub calls : List Call
    pub are_asked : AreAskedBy server_of handles (asked_at old) (first ++ events) outs
        (asked_at new)
    pub account : AddsAll is_after old.wire calls new.wire
    pub exchanged : filter is_exchange calls ≡ exchanges
    pub fates : (conn : ℕ) → Fate conn (old.connections conn) calls outs (new.connections conn)
    pub are_news : AllByRecursion (IsNews old) events
    pub keep_kinds : (conn : ℕ)
        → KeepsKind (old.connections conn) (old.lost conn) (new.connections conn) (new.lost conn)
    pub hears : (conn : ℕ) → Hears (begun_at (old.connections conn)) (came conn)
        (lines_by conn events) (begun_at (new.connections conn))
    pub tells : (conn : ℕ)
        → TellsServer conn (standing_of conn old) events outs (standing_of conn new)
    pub same_room : new.read_room ≡ old.read_room

  -- This and no more: nothing is asked, read or written, and the machine is told of no connection
  -- but those that are gone.
  abbrev pub RanOnBy : MomentOf W M → MomentOf W M → Type 0
  RanOnBy old new = RanBy [] [] nothing_of old new

  -- The machine is asked for this event, and told of no connection that is gone besides.
  abbrev pub AsksOnceBy : Event → MomentOf W M → MomentOf W M → Type 0
  AsksOnceBy event old new = (ran : RanBy [] (event ∷ []) nothing_of old new) × (ran.events ≡ [])

  -- The machine is told of losses, one after another: each time of the one with the lowest number,
  -- of those that there are by then.
  pub data TellsLossesBy (old : MomentOf W M) : MomentOf W M → Type 0 where
    none_so_far : TellsLossesBy old old
    tells_lowest : (conn : ℕ) (kind : ConnectionKind) (before told new : MomentOf W M)
        → TellsLossesBy old before → IsLowestLost conn kind before.lost
        → told ≡ record before { lost = told.lost }
        → ((q : ℕ) → told.lost q ≡ (if nat_eq conn q then None else before.lost q))
        → AsksOnceBy (end_event_of kind conn) told new → TellsLossesBy old new

  -- The machine is asked for an event, and then told of the connections that were lost by it.
  pub record PassesOnBy (event : Event) (old new : MomentOf W M) : Type 0 where
    pub between : MomentOf W M
    pub asks : AsksOnceBy event old between
    pub losses : TellsLossesBy between new

  -- A client has connected or a link is open, and is there from now on: nothing is owed to it, and
  -- nothing has come. The machine is asked for this event. A number that is in use is passed over.
  pub data StartsBy (kind : ConnectionKind) (room conn : ℕ) (event : Event)
      (old new : MomentOf W M) : Type 0 where
    in_use : is_some (old.connections conn) ≡ true → RanOnBy old new
        → StartsBy kind room conn event old new
    makes_connection : (between : MomentOf W M) → old.connections conn ≡ None
        → between.server ≡ old.server → between.journal ≡ old.journal → between.wire ≡ old.wire
        → between.lost ≡ old.lost → between.waiting ≡ old.waiting
        → between.read_room ≡ old.read_room
        → ((q : ℕ) → between.connections q ≡ (if nat_eq conn q then Some
        (fresh_connection kind room) else old.connections q))
        → RanBy [] (event ∷ []) nothing_of between new → StartsBy kind room conn event old new

  -- A connection that the server has not closed is read once; another is not.
  pub data ReadsBy (conn : ℕ) (old new : MomentOf W M) : Type 0 where
    not_open : is_open_at (old.connections conn) ≡ false → RanOnBy old new → ReadsBy conn old new
    read_once : (room : ℕ) (answer : Result Got IoFault) (bytes : List ℕ)
        → is_open_at (old.connections conn) ≡ true → room ≡ old.read_room
        → RanBy (reads conn room answer bytes ∷ []) [] (only_of conn bytes) old new
        → ReadsBy conn old new

  -- What is ready is done.
  abbrev pub AnswersBy : OutboxSizes → Ready → MomentOf W M → MomentOf W M → Type 0
  AnswersBy sizes Idle old new = RanOnBy old new
  AnswersBy sizes (Client conn host) old new =
      StartsBy kinds.Client sizes.client conn (Connect conn host) old new
  AnswersBy sizes (Linked conn starts) old new =
      StartsBy kinds.Link sizes.link conn (LinkUp conn starts) old new
  AnswersBy sizes (Readable conn) old new = ReadsBy conn old new
  AnswersBy sizes (Writable conn) old new = RanOnBy old new

  -- Each outbox that is not empty is written once.
  pub record FlushesBy (old new : MomentOf W M) : Type 0 where
    pub exchanges : List Call
    pub ran : RanBy exchanges [] nothing_of old new
    pub each : IsInOrder old → WritesEach old.connections exchanges new.connections

  -- What is due is done, at some moment: what the machine puts out then, and it is told of the
  -- connections that were lost by it. Nothing is asked, read or written.
  pub record DoesDueBy
      (is_due : M → ℕ → List Sent → Result (Unit {0}) ServerFault → M → List Sent → Type 0)
      (old new : MomentOf W M) : Type 0 where
    pub moment : ℕ
    pub between : MomentOf W M
    pub outs : List Sent
    pub calls : List Call
    pub was_due : is_due old.server moment [] (Ok tt) between.server outs
    pub is_noted : EntersAll (out_signs outs) old.journal between.journal
    pub account : AddsAll is_after old.wire calls between.wire
    pub exchanged : filter is_exchange calls ≡ []
    pub fates : (conn : ℕ)
        → Fate conn (old.connections conn) calls outs (between.connections conn)
    pub keep_kinds : (conn : ℕ) → KeepsKind (old.connections conn) (old.lost conn)
        (between.connections conn) (between.lost conn)
    pub hears : (conn : ℕ) → Hears (begun_at (old.connections conn)) [] []
        (begun_at (between.connections conn))
    pub tells : (conn : ℕ)
        → TellsServer conn (standing_of conn old) [] outs (standing_of conn between)
    pub same_room : between.read_room ≡ old.read_room
    pub losses : RanOnBy between new

  -- nothing is due, ever; or what is due is done
  abbrev pub IsDoneBy : Dues M → MomentOf W M → MomentOf W M → Type 0
  IsDoneBy never_due old new = new ≡ old
  IsDoneBy (due_by is_due) old new = DoesDueBy is_due old new

  -- what is due is done, if anything may be, and then outboxes are written
  abbrev pub EndsBy : Dues M → MomentOf W M → MomentOf W M → Type 0
  EndsBy never_due old new = FlushesBy old new
  EndsBy (due_by is_due) old new =
      (between : MomentOf W M) × DoesDueBy is_due old between × FlushesBy between new

module _ {W M : Type 0} (is_after : W → List Call → Type 0) (server_of : M → Option View)
    (handles : Handles M) (dues : Dues M) where
  -- What is ready is done, and then outboxes are written.
  pub record DoesBy (sizes : OutboxSizes) (report : Ready) (old new : MomentOf W M) : Type 0 where
    pub between : MomentOf W M
    pub answers : AnswersBy is_after server_of handles sizes report old between
    pub writes : EndsBy is_after server_of handles dues between new
    pub all_told : AllTold old → AllTold between × AllTold new
    pub in_order : IsInOrder old → IsInOrder between × IsInOrder new

  -- One turn: the wire is asked once what is ready, and that is done.
  pub record TurnBy (sizes : OutboxSizes) (old new : MomentOf W M) : Type 0 where
    pub report : Ready
    pub wire : W
    pub account : Adds is_after old.wire (asks (Ok report)) wire
    pub does : DoesBy sizes report (record old { wire = wire }) new

-- ---- of a server

abbrev pub AskedFirst : ServerAsked → Event → List Sent → (ServerAsked → List Sent → Type 0)
    → Type 0
AskedFirst = AskedFirstBy itself IsHandled

abbrev pub AreAsked : ServerAsked → List Event → List Sent → ServerAsked → Type 0
AreAsked = AreAskedBy itself IsHandled

module _ {W : Type 0} (is_after : W → List Call → Type 0) where
  abbrev pub Ran : List Call → List Event → (ℕ → List ℕ) → Moment W → Moment W → Type 0
  Ran = RanBy is_after itself IsHandled

  abbrev pub RanOn : Moment W → Moment W → Type 0
  RanOn = RanOnBy is_after itself IsHandled

  abbrev pub AsksOnce : Event → Moment W → Moment W → Type 0
  AsksOnce = AsksOnceBy is_after itself IsHandled

  abbrev pub TellsLosses : Moment W → Moment W → Type 0
  TellsLosses = TellsLossesBy is_after itself IsHandled

  abbrev pub PassesOn : Event → Moment W → Moment W → Type 0
  PassesOn = PassesOnBy is_after itself IsHandled

  abbrev pub Starts : ConnectionKind → (room conn : ℕ) → Event → Moment W → Moment W → Type 0
  Starts = StartsBy is_after itself IsHandled

  abbrev pub Reads : ℕ → Moment W → Moment W → Type 0
  Reads = ReadsBy is_after itself IsHandled

  abbrev pub Answers : OutboxSizes → Ready → Moment W → Moment W → Type 0
  Answers = AnswersBy is_after itself IsHandled

  abbrev pub Flushes : Moment W → Moment W → Type 0
  Flushes = FlushesBy is_after itself IsHandled

  abbrev pub Does : OutboxSizes → Ready → Moment W → Moment W → Type 0
  Does = DoesBy is_after itself IsHandled never_due

  abbrev pub Turn : OutboxSizes → Moment W → Moment W → Type 0
  Turn = TurnBy is_after itself IsHandled never_due
