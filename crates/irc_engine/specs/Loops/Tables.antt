-- What the small functions over the table of connections do.
use Rattle.std.specs.Prelude.{◌≡◌, ℕ, ◌+◌, ◌<◌, ◌≤◌, true, false, nat_eq, is_some, IsNone, Option}
use Rattle.std.specs.Prelude.{Some, None, Result, Ok, Err, List, [], ◌++◌, length, take}
use Rattle.std.specs.Prelude.{if◌then◌else◌}
use Rattle.std.specs.List.{count_by}
use Rattle.arrayvec.specs.ArrayVec.{ArrayVec}
use Rattle.irc_line.specs.Framed.{found_in}
use Rattle.irc_line.specs.Lines.{Begun, Takes}
use Rattle.irc_outbox.specs.declared.outbox.Overflow.{Overflow}
use Rattle.irc_outbox.specs.declared.wire.IoFault.{IoFault}
use Rattle.irc_outbox.specs.Calls.{Call, is_some_bytes}
use Rattle.irc_outbox.specs.Outboxes.{holding, WritesSome}
use Rattle.irc_engine.specs.declared.kind.ConnectionKind.{ConnectionKind}
use Rattle.irc_engine.specs.declared.connection_table.Connection.{Connection}
use Rattle.irc_engine.specs.declared.connection_table.ConnectionTable.{ConnectionTable}
use Rattle.irc_engine.specs.declared.connection_table.Pushed.{Pushed}
use Rattle.irc_engine.specs.declared.connection_table.Pushed.TheVariants.{Nothing, First, More}
use Rattle.irc_engine.specs.Moments.{connection_of}
pub use Rattle.irc_engine.specs.Carrying.{fresh_connection, has_some_at, is_done_at, is_open_at}
pub use Rattle.irc_engine.specs.Carrying.{open_kind_at}

-- how many there are
abbrev pub connection_count : ConnectionTable → ℕ
connection_count table = count_by is_some table.slots.items

-- all connections are as they were, but one
abbrev pub IsSet : (ℕ → Option Connection) → ℕ → Option Connection → (ℕ → Option Connection)
    → Type 0
IsSet old conn connection new = (q : ℕ) → new q ≡ (if nat_eq conn q then connection else old q)

abbrev pub Sets : ConnectionTable → ℕ → Option Connection → ConnectionTable → Type 0
Sets old conn connection new = IsSet (connection_of old) conn connection (connection_of new)

-- there is one fewer now, if that connection was there
abbrev pub CountsWithout : ℕ → ConnectionTable → ConnectionTable → Type 0
CountsWithout conn old new = connection_count new + (if is_some (connection_of old conn)
    then 1 else 0) ≡ connection_count old

abbrev pub AreSame : (ℕ → Option Connection) → (ℕ → Option Connection) → Type 0
AreSame old new = (q : ℕ) → new q ≡ old q

-- a change of one connection; what holds where it is not there
pub data Through (conn : ℕ) (P : Connection → Connection → Type 0) (Q : Type 0)
    (old new : ConnectionTable) : Type 0 where
  at_connection : (connection now : Connection) → connection_of old conn ≡ Some connection
      → IsSet (connection_of old) conn (Some now) (connection_of new) → P connection now
      → Through conn P Q old new
  no_connection : connection_of old conn ≡ None → AreSame (connection_of old) (connection_of new)
      → Q → Through conn P Q old new

-- a change of the connection that is in a place; what holds where there is none
pub data Within (P : Connection → Connection → Type 0) (Q : Type 0)
    (old new : Option Connection) : Type 0 where
  in_connection : (connection now : Connection) → old ≡ Some connection → new ≡ Some now
      → P connection now → Within P Q old new
  in_none : old ≡ None → new ≡ None → Q → Within P Q old new

-- bytes are to be written, behind those that wait already
pub record IsQueued (old : Connection) (bytes : List ℕ) (new : Connection) : Type 0 where
  pub is_open : is_some old.framer ≡ true
  pub some : 0 < length bytes
  pub fits : length old.outbox.bytes + length bytes ≤ old.outbox.room
  pub is : new ≡ record old { outbox = holding (old.outbox.bytes ++ bytes) old.outbox.room }

-- bytes are pushed to be written: what is told says whether others wait already
abbrev pub IsPushedTo : Connection → List ℕ → Result Pushed Overflow → Connection → Type 0
IsPushedTo old bytes (Ok Nothing) new = (is_some old.framer ≡ true → bytes ≡ []) × (new ≡ old)
IsPushedTo old bytes (Ok First) new =
    IsQueued old bytes new × (is_some_bytes old.outbox.bytes ≡ false)
IsPushedTo old bytes (Ok More) new =
    IsQueued old bytes new × (is_some_bytes old.outbox.bytes ≡ true)
IsPushedTo old bytes (Err overflow) new = (is_some old.framer ≡ true)
    × (old.outbox.room < length old.outbox.bytes + length bytes) × (new ≡ old)

abbrev pub IsPushedAt : ℕ → List ℕ → ConnectionTable → Result Pushed Overflow → ConnectionTable
    → Type 0
IsPushedAt conn bytes old result new =
    Through conn (λ s t. IsPushedTo s bytes result t) (result ≡ Ok Nothing) old new

abbrev pub IsPushedIn : List ℕ → Option Connection → Result Pushed Overflow → Option Connection
    → Type 0
IsPushedIn bytes old result new =
    Within (λ s t. IsPushedTo s bytes result t) (result ≡ Ok Nothing) old new

-- the server has closed a connection
abbrev pub IsClosedAt : ℕ → ConnectionTable → ConnectionTable → Type 0
IsClosedAt conn old new = Through conn (λ s t. t ≡ record s { framer = None }) (Unit {0}) old new

-- a framer takes bytes of a piece up to the end of the next line, and the kind is told
pub record FramesSome (old : Connection) (piece : List ℕ) (used : ℕ) (kind : ConnectionKind)
    (line : Option (ArrayVec ℕ)) (new : Connection) : Type 0 where
  pub kind_is : kind ≡ old.kind
  pub before : Begun
  pub behind : Begun
  pub was : old.framer ≡ Some before
  pub is : new ≡ record old { framer = Some behind }
  pub takes : Takes before (take used piece) (found_in line) behind
  pub within : used ≤ length piece
  pub some : 0 < length piece → 0 < used
  pub whole : IsNone line → used ≡ length piece

abbrev pub Frames : Connection → List ℕ → Option (ℕ × ConnectionKind × Option (ArrayVec ℕ))
    → Connection → Type 0
Frames old piece (Some taken) new = FramesSome old piece taken.0 taken.1 taken.2 new
Frames old piece None new = (old.framer ≡ None) × (new ≡ old)

-- what was taken, with the line that was put aside
abbrev pub with_line : Option (ℕ × ConnectionKind) → Option (ArrayVec ℕ)
    → Option (ℕ × ConnectionKind × Option (ArrayVec ℕ))
with_line (Some taken) line = Some (taken.0, taken.1, line)
with_line None line = None

abbrev pub FramesAt : ℕ → List ℕ → ConnectionTable
    → Option (ℕ × ConnectionKind × Option (ArrayVec ℕ)) → ConnectionTable → Type 0
FramesAt conn piece old result new =
    Through conn (λ s t. Frames s piece result t) (result ≡ None) old new

abbrev pub FramesIn : List ℕ → Option Connection → Option (ℕ × ConnectionKind × Option (ArrayVec ℕ))
    → Option Connection → Type 0
FramesIn piece old result new = Within (λ s t. Frames s piece result t) (result ≡ None) old new

-- a write from the front of its outbox
pub record IsWritten {W : Type 0} (is_after : W → List Call → Type 0) (conn : ℕ) (old : Connection)
    (wire : W) (result : Result ℕ IoFault) (new : Connection) (wire_after : W)
    : Type 0 where
  pub writes_some : WritesSome is_after conn old.outbox wire result new.outbox wire_after
  pub same : new ≡ record old { outbox = new.outbox }

abbrev pub IsWrittenAt : {W : Type 0} → (W → List Call → Type 0) → ℕ → ConnectionTable → W
    → Result ℕ IoFault → ConnectionTable → W → Type 0
IsWrittenAt is_after conn old wire result new wire_after =
    Through conn (λ s t. IsWritten is_after conn s wire result t wire_after)
    ((result ≡ Ok 0) × (wire_after ≡ wire)) old new

abbrev pub IsWrittenIn : {W : Type 0} → (W → List Call → Type 0) → ℕ → Option Connection → W
    → Result ℕ IoFault → Option Connection → W → Type 0
IsWrittenIn is_after conn old wire result new wire_after =
    Within (λ s t. IsWritten is_after conn s wire result t wire_after)
    ((result ≡ Ok 0) × (wire_after ≡ wire)) old new
