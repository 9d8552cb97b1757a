-- What an engine is made of, as one moment.
use Rattle.std.specs.Prelude.{ℕ, Bool, Option, Some, None}
use Rattle.std.specs.List.{slice_get}
use Rattle.std.specs.Vec.{vec_len}
use Rattle.std.specs.BTreeMap.{BTreeMap, get as get_in_tree}
use Rattle.std.specs.BTreeSet.{BTreeSet, contains}
use Rattle.std.specs.Ordering.{nat_cmp}
use Rattle.irc_engine.specs.declared.kind.ConnectionKind.{ConnectionKind}
use Rattle.irc_engine.specs.declared.connection_table.Connection.{Connection}
use Rattle.irc_engine.specs.declared.connection_table.ConnectionTable.{ConnectionTable}
use Rattle.irc_engine.specs.declared.engine.Core.{Core}
use Rattle.irc_engine.specs.Running.{MomentOf}

-- what is in a place, where there is that place
abbrev pub connection_at : Option (Option Connection) → Option Connection
connection_at (Some slot) = slot
connection_at None = None

-- the connection of a number, if there is one
abbrev pub connection_of : ConnectionTable → ℕ → Option Connection
connection_of table conn = connection_at (slice_get table.slots.items conn)

-- whether a number is in a set
abbrev pub has : BTreeSet ℕ → ℕ → Bool
has numbers conn = contains nat_cmp numbers conn

-- the kind of a connection that was lost
abbrev pub lost_at : BTreeMap ℕ ConnectionKind → ℕ → Option ConnectionKind
lost_at lost conn = get_in_tree nat_cmp lost conn

-- all of that as one moment
abbrev pub moment_of : {W M : Type 0} → Core W M → MomentOf W M
moment_of core = record {
  server = core.machine;
  journal = core.journal;
  wire = core.connections.wire;
  connections = connection_of core.connections.table;
  lost = lost_at core.connections.lost;
  waiting = has core.connections.waiting;
  read_room = vec_len core.buffer;
}
