-- What comes of asking an engine for a turn, and for several: one of any machine (`TurnedBy`), and,
-- at the end, one of a server (`Turned`).
use Rattle.std.specs.Prelude.{◌≡◌, ℕ, ◌+◌, ◌<◌, Bool, true, false, Option, None, Result, Ok, Err}
use Rattle.std.specs.Prelude.{List}
use Rattle.irc_outbox.specs.declared.wire.IoFault.{IoFault}
use Rattle.irc_outbox.specs.declared.wire.Ready.{Ready}
use Rattle.irc_outbox.specs.declared.wire.Ready.TheVariants.{Idle, Writable}
use Rattle.irc_outbox.specs.Calls.{Call, asks, Adds}
use Rattle.irc_stage.specs.View.{View}
use Rattle.irc_engine.specs.declared.engine.EngineFault.{EngineFault}
use Rattle.irc_engine.specs.declared.engine.EngineFault.TheVariants.{Memory, Failed, Device}
use Rattle.irc_engine.specs.Carrying.{has_some_at}
use Rattle.irc_journal.specs.Signs.{IsBlank}
use Rattle.irc_server.specs.ReadEvents.{IsHandled}
use Rattle.irc_engine.specs.EngineView.{EngineView, EngineViewOf}
use Rattle.irc_engine.specs.Machines.{itself, never_due, Dues, Handles, UnlessDue}
use Rattle.irc_engine.specs.Running.{MomentOf, IsInOrder, DoesBy, TurnBy}

-- an engine that has served nobody
pub record IsNew {W M : Type 0} (server : M) (wire : W) (client_room link_room : ℕ)
    (engine : EngineViewOf W M) : Type 0 where
  pub serves : engine.failed ≡ false
  pub server_is : engine.now.server ≡ server
  pub is_blank : IsBlank engine.now.journal
  pub wire_is : engine.now.wire ≡ wire
  pub rooms_are : engine.sizes ≡ record { client = client_room; link = link_room }
  pub no_connections : (conn : ℕ) → engine.now.connections conn ≡ None
  pub in_order : IsInOrder engine.now
  pub reads_at_most : engine.now.read_room ≡ 4096

-- whether nothing is ready, or no more than that a connection takes bytes again
abbrev pub brings_nothing : Ready → Bool
brings_nothing Idle = true
brings_nothing (Writable conn) = true
brings_nothing report = false

-- nothing is ready, and nothing is left to write
pub record IsNothingToDo {W M : Type 0} (report : Ready) (now : MomentOf W M) : Type 0 where
  pub nothing_ready : brings_nothing report ≡ true
  pub nothing_left : (conn : ℕ) → has_some_at (now.connections conn) ≡ false

-- memory ran out before
abbrev pub HasFailed : {W M : Type 0} → EngineViewOf W M → Type 0
HasFailed engine = engine.failed ≡ true

-- ---- of any machine

module _ {W M : Type 0} (is_after : W → List Call → Type 0) (server_of : M → Option View)
    (handles : Handles M) (dues : Dues M) where
  -- What is ready is done, and then outboxes are written; or memory ran out, which it does not
  -- where there is nothing to do, unless something may be due.
  pub data TakenBy (report : Ready) (old new : EngineViewOf W M)
      : Result (Unit {0}) EngineFault → Type 0 where
    takes_it : new.failed ≡ false → new.sizes ≡ old.sizes
        → DoesBy is_after server_of handles dues old.sizes report old.now new.now
        → TakenBy report old new (Ok tt)
    runs_out : new.failed ≡ true
        → UnlessDue dues (IsInOrder old.now → ¬ (IsNothingToDo report old.now))
        → TakenBy report old new (Err Memory)

  -- A turn is taken; or the wire could not tell what is ready, and nothing else has happened; or
  -- memory ran out, where there was something to do; or it ran out before. The sizes of outboxes
  -- stay what they were.
  pub data TurnedBy (old new : EngineViewOf W M) : Result (Unit {0}) EngineFault → Type 0 where
    takes_turn : old.failed ≡ false → new.failed ≡ false → new.sizes ≡ old.sizes
        → TurnBy is_after server_of handles dues old.sizes old.now new.now
        → TurnedBy old new (Ok tt)
    device_failed : (fault : IoFault) → old.failed ≡ false → new.failed ≡ false
        → new.sizes ≡ old.sizes → Adds is_after old.now.wire (asks (Err fault)) new.now.wire
        → new.now ≡ record old.now { wire = new.now.wire } → TurnedBy old new (Err Device)
    wants_memory : (report : Ready) (wire : W) → old.failed ≡ false → new.failed ≡ true
        → Adds is_after old.now.wire (asks (Ok report)) wire
        → UnlessDue dues (IsInOrder old.now → ¬ (IsNothingToDo report old.now))
        → TurnedBy old new (Err Memory)
    has_failed : old.failed ≡ true → new ≡ old → TurnedBy old new (Err Failed)

  -- so many turns, one after another
  pub data TurnsBy (old : EngineViewOf W M) : ℕ → EngineViewOf W M → Type 0 where
    no_turn : TurnsBy old 0 old
    one_more : (n : ℕ) (between new : EngineViewOf W M) → TurnsBy old n between
        → TurnedBy between new (Ok tt) → TurnsBy old (n + 1) new

  -- All of so many turns were taken; or the one behind some of them was not, and that is the last.
  pub data RunsBy (old : EngineViewOf W M) (turns : ℕ) (new : EngineViewOf W M)
      : Result (Unit {0}) EngineFault → Type 0 where
    all_taken : TurnsBy old turns new → RunsBy old turns new (Ok tt)
    stopped : (taken : ℕ) (between : EngineViewOf W M) (fault : EngineFault) → taken < turns
        → TurnsBy old taken between → TurnedBy between new (Err fault)
        → RunsBy old turns new (Err fault)

-- ---- of a server

module _ {W : Type 0} (is_after : W → List Call → Type 0) where
  abbrev pub Taken : Ready → EngineView W → EngineView W → Result (Unit {0}) EngineFault → Type 0
  Taken = TakenBy is_after itself IsHandled never_due

  abbrev pub Turned : EngineView W → EngineView W → Result (Unit {0}) EngineFault → Type 0
  Turned = TurnedBy is_after itself IsHandled never_due

  abbrev pub Turns : EngineView W → ℕ → EngineView W → Type 0
  Turns = TurnsBy is_after itself IsHandled never_due

  abbrev pub Runs : EngineView W → ℕ → EngineView W → Result (Unit {0}) EngineFault → Type 0
  Runs = RunsBy is_after itself IsHandled never_due
