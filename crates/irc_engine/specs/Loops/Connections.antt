-- What the calls that reach connections and the wire do: to the wire, to the connections, to those
-- that are lost.
use Rattle.std.specs.Prelude.{◌≡◌, ℕ, ◌≤◌, Bool, true, false, ◌&&◌, ◌||◌, nat_eq, is_some, Option}
use Rattle.std.specs.Prelude.{Some, None, Result, List, [], ◌∷◌, if◌then◌else◌}
use Rattle.std.specs.List.{filter}
use Rattle.std.specs.BTreeMap.{BTreeMap}
use Rattle.std.specs.BTreeSet.{BTreeSet}
use Rattle.irc_outbox.specs.Calls.{Call, writes, closes, is_some_bytes, Adds}
use Rattle.irc_outbox.specs.declared.wire.IoFault.{IoFault}
use Rattle.irc_batch.specs.Batches.{Sent}
use Rattle.irc_engine.specs.declared.kind.ConnectionKind.{ConnectionKind}
use Rattle.irc_engine.specs.declared.connection_table.Connection.{Connection}
use Rattle.irc_engine.specs.declared.connections.Connections.{Connections}
use Rattle.irc_engine.specs.Carrying.{AddsAll, Passage, has_some_at, is_done_at, is_exchange}
use Rattle.irc_engine.specs.Carrying.{is_open_at, kind_at}
use Rattle.irc_engine.specs.Loops.Tables.{CountsWithout, IsSet}
use Rattle.irc_engine.specs.Moments.{connection_of, has, lost_at}
use Rattle.irc_engine.specs.Loops.Counts.{count_of}

-- a number is in a set, or is not, from now on
abbrev pub IsNoted : BTreeSet ℕ → ℕ → Bool → BTreeSet ℕ → Type 0
IsNoted old conn now new = (q : ℕ) → has new q ≡ (if nat_eq conn q then now else has old q)

-- a connection is among those that were lost, as one of some kind, or is not, from now on
abbrev pub IsLostAs : BTreeMap ℕ ConnectionKind → ℕ → Option ConnectionKind
    → BTreeMap ℕ ConnectionKind → Type 0
IsLostAs old conn now new = (q : ℕ) → lost_at new q ≡ (if nat_eq conn q then now else lost_at old q)

-- a connection ends
pub record Ends {W : Type 0} (is_after : W → List Call → Type 0) (conn : ℕ)
    (old new : Connections W) : Type 0 where
  pub account : Adds is_after old.wire (closes conn) new.wire
  pub table : IsSet (connection_of old.table) conn None (connection_of new.table)
  pub lost : new.lost ≡ old.lost
  pub waiting : IsNoted old.waiting conn false new.waiting
  pub len : CountsWithout conn old.table new.table

-- as what a connection is lost, after this one was lost: as of its kind, if it is that one and was
-- open; else as before
abbrev pub lost_by : Bool → Option Connection → Option ConnectionKind → Option ConnectionKind
lost_by it_is connection was = if it_is && is_open_at connection then kind_at connection else was

-- a connection is lost
pub record Loses {W : Type 0} (is_after : W → List Call → Type 0) (conn : ℕ)
    (old new : Connections W) : Type 0 where
  pub account : Adds is_after old.wire (closes conn) new.wire
  pub table : IsSet (connection_of old.table) conn None (connection_of new.table)
  pub lost : (q : ℕ) → lost_at new.lost q ≡ lost_by (nat_eq conn q) (connection_of old.table conn)
      (lost_at old.lost q)
  pub waiting : IsNoted old.waiting conn false new.waiting
  pub count : count_of new ≤ count_of old

-- after a write, a connection ends if the server has closed it and nothing is left; else it is
-- noted just where something is left
pub data EndsOrWaits {W : Type 0} (is_after : W → List Call → Type 0) (conn : ℕ)
    (old new : Connections W) : Type 0 where
  ended : is_done_at (connection_of old.table conn) ≡ true → Ends is_after conn old new
      → EndsOrWaits is_after conn old new
  stayed : is_done_at (connection_of old.table conn) ≡ false → new.wire ≡ old.wire
      → new.table ≡ old.table → new.lost ≡ old.lost → IsNoted old.waiting conn
      (has_some_at (connection_of old.table conn)) new.waiting → EndsOrWaits is_after conn old new

-- What the server has put out is done, and other calls are made of the wire; just these of them ask
-- what is ready, read or write.
pub record Carries {W : Type 0} (is_after : W → List Call → Type 0) (exchanges : List Call)
    (old : Connections W) (outs : List Sent) (new : Connections W) : Type 0 where
  pub calls : List Call
  pub account : AddsAll is_after old.wire calls new.wire
  pub passage : (conn : ℕ) → Passage conn (connection_of old.table conn)
      (lost_at old.lost conn) calls outs (connection_of new.table conn) (lost_at new.lost conn)
  pub exchanged : filter is_exchange calls ≡ exchanges
  pub count : count_of new ≤ count_of old

-- of one thing that the server has put out, and no call but those that close
abbrev pub CarriesOne : {W : Type 0} → (W → List Call → Type 0) → Connections W → Sent
    → Connections W → Type 0
CarriesOne is_after old sent new = Carries is_after [] old (sent ∷ []) new

-- A connection is noted just where it has bytes to write and the turn is not about to write to it;
-- and it is not one that is to be closed by now.
pub record IsMarked (pending : Bool) (connection : Option Connection) (noted : Bool) : Type 0 where
  pub noted_is : ((pending && is_some connection) || noted) ≡ has_some_at connection
  pub not_done : is_done_at connection ≡ false

abbrev pub IsMarkedAt : {W : Type 0} → ℕ → Bool → Connections W → Type 0
IsMarkedAt conn pending connections =
    IsMarked pending (connection_of connections.table conn) (has connections.waiting conn)

-- each connection stays so
abbrev pub KeepsMarks : {W : Type 0} → Connections W → Connections W → Type 0
KeepsMarks old new = (conn : ℕ) (pending : Bool) → IsMarkedAt conn pending old
    → IsMarkedAt conn pending new

-- so where the turn is not about to write to any
abbrev pub KeepsNotes : {W : Type 0} → Connections W → Connections W → Type 0
KeepsNotes old new = (conn : ℕ) → IsMarkedAt conn false old → IsMarkedAt conn false new

-- one write to a connection, from the front of its outbox
pub record IsOneWrite (conn : ℕ) (connection : Connection) (exchanges : List Call) : Type 0 where
  pub front : List ℕ
  pub answer : Result ℕ IoFault
  pub exchanges_are : exchanges ≡ writes conn front answer ∷ []
  pub some : is_some_bytes connection.outbox.bytes ≡ true → is_some_bytes front ≡ true

-- none, where it is not there
abbrev pub AreWrites : ℕ → Option Connection → List Call → Type 0
AreWrites conn None exchanges = exchanges ≡ []
AreWrites conn (Some connection) exchanges = IsOneWrite conn connection exchanges

-- One write is made to a connection, which the turn is not about to write to any more.
pub record Writes {W : Type 0} (is_after : W → List Call → Type 0) (conn : ℕ)
    (old new : Connections W) : Type 0 where
  pub exchanges : List Call
  pub carries : Carries is_after exchanges old [] new
  pub are_writes : AreWrites conn (connection_of old.table conn) exchanges
  pub marks : (q : ℕ) (pending : Bool) → IsMarkedAt q pending old
      → IsMarkedAt q (if nat_eq conn q then false else pending) new
