-- What becomes of a connection while calls are made of the wire and the server puts lines out: the
-- bytes to it go from the server to its outbox, and from there to the wire, in order, none twice;
-- and when it is closed.
use Rattle.std.specs.Prelude.{◌≡◌, ℕ, ◌<◌, Bool, true, false, not, ◌&&◌, ◌||◌, nat_eq, is_some}
use Rattle.std.specs.Prelude.{Option, Some, None, Ok, Err, List, [], ◌∷◌, ◌++◌, length}
use Rattle.std.specs.Prelude.{if◌then◌else◌}
use Rattle.std.specs.List.{list_any}
use Rattle.irc_outbox.specs.declared.wire.Got.TheVariants.{End}
use Rattle.irc_line.specs.Lines.{nothing_begun}
use Rattle.irc_outbox.specs.Outboxes.{holding}
use Rattle.irc_outbox.specs.Calls.{Call, reads, writes, closes, is_some_bytes, written}
use Rattle.irc_outbox.specs.Calls.{times_closed}
use Rattle.irc_batch.specs.Batches.{Sent, end_of, end_of_link, line_on, line_to}
use Rattle.irc_engine.specs.declared.kind.ConnectionKind.{ConnectionKind}
use Rattle.irc_engine.specs.declared.connection_table.Connection.{Connection}
use Rattle.irc_engine.specs.Hearing.{begun_at, Hears}

-- a connection that has just been made
abbrev pub fresh_connection : ConnectionKind → ℕ → Connection
fresh_connection kind room =
    record { kind = kind; outbox = holding [] room; framer = Some nothing_begun }

-- The bytes to a connection among what the server puts out, up to where it closes it. A link is a
-- connection of the wire too: no number is that of a client and of a link.
abbrev pub answers : ℕ → List Sent → List ℕ
answers conn [] = []
answers conn (line_to to text ∷ outs) = (if nat_eq to conn then text else []) ++ answers conn outs
answers conn (end_of which ∷ outs) = if nat_eq which conn then [] else answers conn outs
answers conn (line_on link text ∷ outs) =
    (if nat_eq link conn then text else []) ++ answers conn outs
answers conn (end_of_link which reason ∷ outs) = if nat_eq which conn then [] else answers conn outs

-- whether the server closes it there
abbrev pub is_closing : ℕ → Sent → Bool
is_closing conn (end_of which) = nat_eq which conn
is_closing conn (end_of_link which reason) = nat_eq which conn
is_closing conn line = false

abbrev pub is_closed_by : ℕ → List Sent → Bool
is_closed_by conn outs = list_any (is_closing conn) outs

-- what is owed to a connection: nothing, once the server has closed it
abbrev pub bytes_owed : Bool → ℕ → List Sent → List ℕ
bytes_owed true conn outs = answers conn outs
bytes_owed false conn outs = []

-- whether a connection is there that the server has not closed
abbrev pub is_open_at : Option Connection → Bool
is_open_at None = false
is_open_at (Some connection) = is_some connection.framer

-- the kind of a connection, if it is there
abbrev pub kind_at : Option Connection → Option ConnectionKind
kind_at None = None
kind_at (Some connection) = Some connection.kind

-- and if the server has not closed it
abbrev pub open_kind_at : Option Connection → Option ConnectionKind
open_kind_at connection = if is_open_at connection then kind_at connection else None

-- A connection is of this kind: it is there, and of this kind, or it was lost as one of this kind,
-- and the server has yet to be told.
pub data IsOfKind (kind : ConnectionKind) (connection : Option Connection)
    (lost : Option ConnectionKind) : Type 0 where
  kind_of_connection : kind_at connection ≡ Some kind → IsOfKind kind connection lost
  kind_of_loss : lost ≡ Some kind → IsOfKind kind connection lost

-- it is of no other kind than before
abbrev pub KeepsKind : Option Connection → Option ConnectionKind → Option Connection
    → Option ConnectionKind → Type 0
KeepsKind old was new now = (kind : ConnectionKind) → IsOfKind kind new now → IsOfKind kind old was

-- whether it is there, with bytes to write
abbrev pub has_some_at : Option Connection → Bool
has_some_at None = false
has_some_at (Some connection) = is_some_bytes connection.outbox.bytes

-- whether it is there, closed by the server, with nothing left to write
abbrev pub is_done_at : Option Connection → Bool
is_done_at None = false
is_done_at (Some connection) =
    not (is_some connection.framer) && not (is_some_bytes connection.outbox.bytes)

-- a read of the connection that ended or failed, or a write that failed
abbrev pub ends_at : ℕ → Call → Bool
ends_at conn (reads from room (Ok End) bytes) = nat_eq from conn
ends_at conn (reads from room (Err fault) bytes) = nat_eq from conn
ends_at conn (writes to bytes (Err fault)) = nat_eq to conn
ends_at conn call = false

abbrev pub is_cut_off : ℕ → List Call → Bool
is_cut_off conn calls = list_any (ends_at conn) calls

-- Whatever calls the wire may have answered before, it may have answered these more now.
abbrev pub AddsAll : {W : Type 0} → (W → List Call → Type 0) → W → List Call → W → Type 0
AddsAll is_after old more new = (calls : List Call) → is_after old calls
    → is_after new (calls ++ more)

-- whether a call asks what is ready, reads or writes: each but one that closes
abbrev pub is_exchange : Call → Bool
is_exchange (closes conn) = false
is_exchange call = true

-- nothing is written to it, and it is not closed
pub record Silent (conn : ℕ) (calls : List Call) : Type 0 where
  pub nothing : written conn calls ≡ []
  pub never : times_closed conn calls ≡ 0

-- A connection stays: what its outbox held, with what the server put out to it behind, is what was
-- written, with what the outbox holds now behind.
pub record Stays (conn : ℕ) (old : Connection) (calls : List Call) (outs : List Sent)
    (new : Connection) : Type 0 where
  pub carried : old.outbox.bytes ++ bytes_owed (is_some old.framer) conn outs ≡ written conn calls
      ++ new.outbox.bytes
  pub same_room : new.outbox.room ≡ old.outbox.room
  pub still_open : is_some new.framer ≡ (is_some old.framer && not (is_closed_by conn outs))
  pub never : times_closed conn calls ≡ 0
  pub never_cut : is_cut_off conn calls ≡ false

-- Why a connection is closed with this left unwritten: the server closed it, and nothing is left;
-- or the device failed at it, or it ended; or what was left did not fit its outbox.
pub data Why (conn : ℕ) (old : Connection) (calls : List Call) (outs : List Sent)
    (left : List ℕ) : Type 0 where
  finished : (is_some old.framer && not (is_closed_by conn outs)) ≡ false → left ≡ []
      → Why conn old calls outs left
  cut_off : is_cut_off conn calls ≡ true → Why conn old calls outs left
  overflowed : old.outbox.room < length left → Why conn old calls outs left

-- A connection is closed, once: what was written is a front of what its outbox held, with what the
-- server put out to it behind.
pub record Leaves (conn : ℕ) (old : Connection) (calls : List Call)
    (outs : List Sent) : Type 0 where
  pub left : List ℕ
  pub carried : old.outbox.bytes ++ bytes_owed (is_some old.framer) conn outs
      ≡ written conn calls ++ left
  pub once : times_closed conn calls ≡ 1
  pub why : Why conn old calls outs left

abbrev pub Fate : ℕ → Option Connection → List Call → List Sent → Option Connection → Type 0
Fate conn None calls outs None = Silent conn calls
Fate conn None calls outs (Some new) = ⊥
Fate conn (Some old) calls outs (Some new) = Stays conn old calls outs new
Fate conn (Some old) calls outs None = Leaves conn old calls outs

-- The connections that were lost, of which the server has yet to be told: those that were, and
-- those that were open and are there no more, but for those that the server has closed by now.
abbrev pub is_lost_after : Option Connection → Bool → Bool → Option Connection → Bool
is_lost_after old was_lost closed new =
    (was_lost || (is_open_at old && not (is_some new))) && not closed

pub record Passage (conn : ℕ) (old : Option Connection) (was_lost : Option ConnectionKind)
    (calls : List Call)
    (outs : List Sent) (new : Option Connection) (is_lost : Option ConnectionKind)
    : Type 0 where
  pub fate : Fate conn old calls outs new
  pub lost_is : is_some is_lost ≡ is_lost_after old (is_some was_lost) (is_closed_by conn outs) new
  pub keeps_kind : KeepsKind old was_lost new is_lost
  pub hears_none : Hears (begun_at old) [] [] (begun_at new)
