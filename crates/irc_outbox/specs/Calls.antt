-- What was asked of a wire and what it answered, call by call; and what such an account says of
-- each connection.
use Rattle.std.specs.Prelude.{ℕ, ⊤, ◌≤◌, Bool, true, false, ◌&&◌, nat_eq, nat_lt, Option, Some}
use Rattle.std.specs.Prelude.{None, Result, Ok, Err, List, [], ◌∷◌, ◌++◌, length, take, count_by}
use Rattle.std.specs.Prelude.{if◌then◌else◌}
use Rattle.std.specs.List.{flat_map}
use Rattle.irc_outbox.specs.declared.wire.Ready.{Ready}
use Rattle.irc_outbox.specs.declared.wire.Got.{Got}
use Rattle.irc_outbox.specs.declared.wire.Got.TheVariants.{Bytes, Later, End}
use Rattle.irc_outbox.specs.declared.wire.IoFault.{IoFault}

-- One call and its answer. Of a read: how many bytes were wanted at most, and which came. Of a
-- write: the bytes that were offered.
pub data Call : Type 0 where
  asks : (answer : Result Ready IoFault) → Call
  reads : (conn room : ℕ) (answer : Result Got IoFault) (bytes : List ℕ) → Call
  writes : (conn : ℕ) (bytes : List ℕ) (answer : Result ℕ IoFault) → Call
  closes : (conn : ℕ) → Call

-- Whatever calls the wire may have answered before, it may have answered these and this one now.
abbrev pub Adds : {W : Type 0} → (W → List Call → Type 0) → W → Call → W → Type 0
Adds is_after old call new = (calls : List Call) → is_after old calls
    → is_after new (calls ++ call ∷ [])

-- Whatever calls the wire may have answered before, it may have answered just these now.
abbrev pub Keeps : {W : Type 0} → (W → List Call → Type 0) → W → W → Type 0
Keeps is_after old new = (calls : List Call) → is_after old calls → is_after new calls

-- the bytes that a read put into a buffer
abbrev pub bytes_got : Result Got IoFault → List ℕ → List ℕ
bytes_got (Ok (Bytes n)) buffer = take n buffer
bytes_got (Ok Later) buffer = []
bytes_got (Ok End) buffer = []
bytes_got (Err fault) buffer = []

-- a read into a buffer, which had these bytes before and has those after
abbrev pub read_into : ℕ → List ℕ → Result Got IoFault → List ℕ → Call
read_into conn before answer after = reads conn (length before) answer (bytes_got answer after)

-- no more bytes came than there was room for
abbrev pub FitsIn : Result Got IoFault → ℕ → Type 0
FitsIn (Ok (Bytes n)) room = n ≤ room
FitsIn answer room = ⊤

-- What an account says.

-- what `ready` answered last, if it was asked
abbrev pub last_report : List Call → Option (Result Ready IoFault)
last_report [] = None
last_report (asks answer ∷ calls) = later_report (Some answer) (last_report calls)
  where
    later_report : Option (Result Ready IoFault) → Option (Result Ready IoFault)
        → Option (Result Ready IoFault)
    later_report first None = first
    later_report first (Some answer) = Some answer
last_report (call ∷ calls) = last_report calls

abbrev pub is_asking : Call → Bool
is_asking (asks answer) = true
is_asking call = false

-- how often `ready` was called
abbrev pub times_asked : List Call → ℕ
times_asked calls = count_by is_asking calls

-- the bytes that were read from a connection
abbrev pub taken_by : ℕ → Call → List ℕ
taken_by conn (reads from room answer bytes) = if nat_eq from conn then bytes else []
taken_by conn call = []

abbrev pub taken : ℕ → List Call → List ℕ
taken conn calls = flat_map (taken_by conn) calls

-- the bytes that a connection took
abbrev pub bytes_taken : List ℕ → Result ℕ IoFault → List ℕ
bytes_taken bytes (Ok n) = take n bytes
bytes_taken bytes (Err fault) = []

abbrev pub written_by : ℕ → Call → List ℕ
written_by conn (writes to bytes answer) = if nat_eq to conn then bytes_taken bytes answer else []
written_by conn call = []

abbrev pub written : ℕ → List Call → List ℕ
written conn calls = flat_map (written_by conn) calls

abbrev pub is_some_bytes : List ℕ → Bool
is_some_bytes [] = false
is_some_bytes (b ∷ bytes) = true

-- how often a connection was read and was written to, with a slice that is not empty
abbrev pub is_read_of : ℕ → Call → Bool
is_read_of conn (reads from room answer bytes) = nat_eq from conn && nat_lt 0 room
is_read_of conn call = false

abbrev pub times_read : ℕ → List Call → ℕ
times_read conn calls = count_by (is_read_of conn) calls

abbrev pub is_write_to : ℕ → Call → Bool
is_write_to conn (writes to bytes answer) = nat_eq to conn && is_some_bytes bytes
is_write_to conn call = false

abbrev pub times_written : ℕ → List Call → ℕ
times_written conn calls = count_by (is_write_to conn) calls

-- how often a connection was closed
abbrev pub is_close_of : ℕ → Call → Bool
is_close_of conn (closes which) = nat_eq which conn
is_close_of conn call = false

abbrev pub times_closed : ℕ → List Call → ℕ
times_closed conn calls = count_by (is_close_of conn) calls

-- how often the device failed
abbrev pub has_failed : {X : Type 0} → Result X IoFault → Bool
has_failed (Ok x) = false
has_failed (Err fault) = true

abbrev pub is_failure : Call → Bool
is_failure (asks answer) = has_failed answer
is_failure (reads conn room answer bytes) = has_failed answer
is_failure (writes conn bytes answer) = has_failed answer
is_failure (closes conn) = false

abbrev pub failures : List Call → ℕ
failures calls = count_by is_failure calls
