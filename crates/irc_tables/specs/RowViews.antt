-- A row of the code's table, and the table that rows make.
use Rattle.std.specs.Prelude.{ℕ, List}
use Rattle.std.specs.Global.{Vec}
use Rattle.irc_names.specs.Fold.{key}
use Rattle.irc_names.specs.Tables.{Table}
use Rattle.irc_tables.specs.FoldedRows.{table_of}
use Rattle.irc_tables.specs.declared.table.Row.{Row}

-- it stands under the fold of its name
abbrev pub row_entry : {V : Type 0} → Row V → List ℕ × V
row_entry row = (key row.name.items, row.value)

-- the table of some rows
abbrev pub as_table : {V : Type 0} → Vec (Row V) → Table V
as_table rows = table_of row_entry rows.items
