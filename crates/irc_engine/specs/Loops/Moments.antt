-- The engine's parts as one moment.
use Rattle.std.specs.Prelude.{◌≡◌, ℕ, Bool, true, false, Option, Some, None, Result, Ok, Err, List}
use Rattle.std.specs.Prelude.{[], ◌∷◌, take}
use Rattle.irc_outbox.specs.declared.wire.Got.{Got}
use Rattle.irc_outbox.specs.declared.wire.Got.TheVariants.{Bytes, Later, End}
use Rattle.irc_outbox.specs.declared.wire.IoFault.{IoFault}
use Rattle.irc_outbox.specs.Calls.{Call}
use Rattle.std.specs.Ordering.{is_lt}
use Rattle.arrayvec.specs.ArrayVec.{ArrayVec}
use Rattle.irc_server.specs.declared.event.Event.{Event}
use Rattle.irc_names.specs.Fold.{name_cmp}
use Rattle.irc_routes.specs.Known.{is_known}
use Rattle.irc_stage.specs.View.{View}
use Rattle.irc_engine.specs.declared.engine.Core.{Core}
use Rattle.irc_engine.specs.declared.kind.ConnectionKind.{ConnectionKind}
use Rattle.irc_engine.specs.Carrying.{open_kind_at}
use Rattle.irc_engine.specs.Hearing.{line_event_of, nothing_of, only_of}
use Rattle.irc_engine.specs.Machines.{Handles}
use Rattle.irc_engine.specs.Running.{MomentOf, AllTold, IsInOrder, RanBy}
use Rattle.irc_engine.specs.Knowing.{IsAtOne, IsSettled, IsToHear}
use Rattle.irc_engine.specs.Moments.{moment_of, connection_of, has, lost_at}

-- from the engine's parts to what they are then, as from one moment to another
abbrev pub Spans : {W M : Type 0} → (MomentOf W M → MomentOf W M → Type 0) → Core W M → Core W M
    → Type 0
Spans P old new = P (moment_of old) (moment_of new)

module _ {W M : Type 0} (is_after : W → List Call → Type 0) (server_of : M → Option View)
    (handles : Handles M) where
  -- The machine is asked for these events, and then for others that follow from them.
  abbrev pub AsksFor : List Event → Core W M → Core W M → Type 0
  AsksFor events old new =
      RanBy is_after server_of handles [] events nothing_of (moment_of old) (moment_of new)

  -- So many bytes at the front of the buffer are heard, as those of one connection.
  abbrev pub HearsFrom : ℕ → ℕ → Core W M → Core W M → Type 0
  HearsFrom conn count old new =
      RanBy is_after server_of handles [] [] (only_of conn (take count old.buffer.items))
      (moment_of old) (moment_of new)

-- whether a server knows another, by any way, or is that one; one for which memory ran out is taken
-- for one that does
abbrev pub knows_at : Option View → List ℕ → Bool
knows_at None name = true
knows_at (Some view) name = is_known view.routes name

-- whether a server's name is less than another's, by their folds
abbrev pub yields_at : Option View → List ℕ → Bool
yields_at None name = true
yields_at (Some view) name = is_lt (name_cmp view.routes.name name)

-- how many bytes a read gave; none, where it ended or failed
abbrev pub came : Result Got IoFault → Option ℕ
came (Ok (Bytes n)) = Some n
came (Ok Later) = Some 0
came (Ok End) = None
came (Err fault) = None

-- the event by which a line is passed on, if there is one
abbrev pub passed_on : ConnectionKind → ℕ → Option (ArrayVec ℕ) → List Event
passed_on kind conn None = []
passed_on kind conn (Some line) = line_event_of kind conn line ∷ []

-- the server has been told of each connection that was lost, if it had been before
abbrev pub KeepsTold : {W M : Type 0} → Core W M → Core W M → Type 0
KeepsTold old new = AllTold (moment_of old) → AllTold (moment_of new)

-- it is in order, if it was before
abbrev pub KeepsOrder : {W M : Type 0} → Core W M → Core W M → Type 0
KeepsOrder old new = IsInOrder (moment_of old) → IsInOrder (moment_of new)

-- nobody is noted as one to be written to
abbrev pub IsNobodyNoted : {W M : Type 0} → Core W M → Type 0
IsNobodyNoted core = (conn : ℕ) → has core.connections.waiting conn ≡ false

-- the engine and its server know the same of each other: between two turns, within one, and before
-- an event
abbrev pub IsSettledIn : {W M : Type 0} → (M → Option View) → Core W M → Type 0
IsSettledIn server_of core = IsSettled (server_of core.machine)
    (connection_of core.connections.table) (lost_at core.connections.lost)

abbrev pub IsAtOneIn : {W M : Type 0} → (M → Option View) → Core W M → Type 0
IsAtOneIn server_of core = IsAtOne (server_of core.machine) (connection_of core.connections.table)
    (lost_at core.connections.lost)

abbrev pub IsToHearIn : {W M : Type 0} → (M → Option View) → Event → Core W M → Type 0
IsToHearIn server_of event core = IsToHear event (server_of core.machine)
    (connection_of core.connections.table) (lost_at core.connections.lost)

-- a connection is open, as one of this kind
abbrev pub IsOpenAs : {W M : Type 0} → ℕ → ConnectionKind → Core W M → Type 0
IsOpenAs conn kind core = open_kind_at (connection_of core.connections.table conn) ≡ Some kind
