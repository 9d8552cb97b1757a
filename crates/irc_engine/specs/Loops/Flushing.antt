-- Outboxes that are written one after another.
use Rattle.std.specs.Prelude.{◌≡◌, ℕ, ◌+◌, ◌≤◌, Bool, true, false, is_some, Option, List, []}
use Rattle.irc_stage.specs.View.{View}
use Rattle.std.specs.BTreeSet.{BTreeSet}
use Rattle.std.specs.List.{list_all, AllByRecursion}
use Rattle.std.specs.List.Sorted.{IsStrictlySortedBy}
use Rattle.std.specs.Ordering.{nat_cmp}
use Rattle.std.specs.declared.cmp.Ordering.TheVariants.{Less}
use Rattle.irc_outbox.specs.Calls.{Call, times_written}
use Rattle.irc_engine.specs.declared.engine.Core.{Core}
use Rattle.irc_engine.specs.declared.connection_table.Connection.{Connection}
use Rattle.irc_engine.specs.Carrying.{has_some_at}
use Rattle.irc_engine.specs.Hearing.{nothing_of}
use Rattle.irc_engine.specs.Machines.{Handles}
use Rattle.irc_engine.specs.Running.{AllTold, IsInOrder, RanBy}
use Rattle.irc_engine.specs.Writing.{one_if, destinations, is_some_write}
use Rattle.irc_engine.specs.Loops.Connections.{IsMarkedAt}
use Rattle.irc_engine.specs.Moments.{has, moment_of, connection_of}
use Rattle.irc_engine.specs.Loops.Moments.{IsNobodyNoted}

-- These calls have written, and just those that are still pending have yet to be written to.
pub record Flushing (pending : ℕ → Bool) (was : ℕ → Option Connection) (calls : List Call)
    (now : ℕ → Option Connection) : Type 0 where
  pub write_some : list_all is_some_write calls ≡ true
  pub sorted : IsStrictlySortedBy nat_cmp (destinations calls)
  pub behind : (q : ℕ) → pending q ≡ true
      → AllByRecursion (λ d. nat_cmp d q ≡ Less) (destinations calls)
  pub at_most : (q : ℕ) → times_written q calls + one_if (pending q) ≤ one_if (has_some_at (was q))
  pub unless_closed : (q : ℕ) → is_some (now q) ≡ true
      → times_written q calls + one_if (pending q) ≡ one_if (has_some_at (was q))

-- so far it is in order, but for those that are pending
pub record Halfway {W M : Type 0} (pending : BTreeSet ℕ) (old : Core W M) (calls : List Call)
    (now : Core W M) : Type 0 where
  pub all_told : AllTold (moment_of now)
  pub marks : (q : ℕ) → IsMarkedAt q (has pending q) now.connections
  pub flushing : Flushing (has pending) (connection_of old.connections.table) calls
      (connection_of now.connections.table)

pub record FlushesSoFar {W M : Type 0} (is_after : W → List Call → Type 0)
    (server_of : M → Option View) (handles : Handles M) (pending : BTreeSet ℕ)
    (old now : Core W M) : Type 0 where
  pub exchanges : List Call
  pub ran : RanBy is_after server_of handles exchanges [] nothing_of (moment_of old)
      (moment_of now)
  pub told : AllTold (moment_of old) → AllTold (moment_of now)
  pub halfway : IsInOrder (moment_of old) → Halfway pending old exchanges now
  pub quiet : IsNobodyNoted old → (q : ℕ) → has pending q ≡ false
