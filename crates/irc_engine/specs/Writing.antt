-- What a turn writes: once from each outbox that is not empty, in order of number.
use Rattle.std.specs.Prelude.{◌≡◌, ℕ, ◌≤◌, Bool, true, false, is_some, Option, List, [], ◌∷◌}
use Rattle.std.specs.Prelude.{if◌then◌else◌}
use Rattle.std.specs.List.{flat_map, list_all}
use Rattle.std.specs.List.Sorted.{IsStrictlyIncreasing}
use Rattle.irc_outbox.specs.Calls.{Call, writes, is_some_bytes, times_written}
use Rattle.irc_engine.specs.declared.connection_table.Connection.{Connection}
use Rattle.irc_engine.specs.Carrying.{has_some_at}

abbrev pub one_if : Bool → ℕ
one_if b = if b then 1 else 0

-- the connections that are written to, in order
abbrev pub destination : Call → List ℕ
destination (writes to bytes answer) = to ∷ []
destination call = []

abbrev pub destinations : List Call → List ℕ
destinations calls = flat_map destination calls

-- whether a call writes, and something
abbrev pub is_some_write : Call → Bool
is_some_write (writes to bytes answer) = is_some_bytes bytes
is_some_write call = false

-- A connection is written to once where there was something to write: or, where it is closed
-- meanwhile, at most once. Where there was nothing, it is not.
pub record IsWrittenOnce (conn : ℕ) (old : Option Connection) (calls : List Call)
    (new : Option Connection) : Type 0 where
  pub at_most : times_written conn calls ≤ one_if (has_some_at old)
  pub unless_closed : is_some new ≡ true → times_written conn calls ≡ one_if (has_some_at old)

-- Each is a write of something, each connection is written to so, and they are so in order of
-- number.
pub record WritesEach (old : ℕ → Option Connection) (calls : List Call)
    (new : ℕ → Option Connection) : Type 0 where
  pub write_some : list_all is_some_write calls ≡ true
  pub in_order : IsStrictlyIncreasing (destinations calls)
  pub each : (conn : ℕ) → IsWrittenOnce conn (old conn) calls (new conn)
