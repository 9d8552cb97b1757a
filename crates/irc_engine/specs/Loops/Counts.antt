-- How many connections are there, or lost and not told of yet.
use Rattle.std.specs.Prelude.{ℕ, ◌+◌}
use Rattle.std.specs.BTreeMap.{btree_map_len}
use Rattle.irc_engine.specs.declared.connections.Connections.{Connections}
use Rattle.irc_engine.specs.Loops.Tables.{connection_count}

abbrev pub count_of : {W : Type 0} → Connections W → ℕ
count_of connections = connection_count connections.table + btree_map_len connections.lost
