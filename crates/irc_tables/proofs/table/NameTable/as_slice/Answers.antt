use Rattle.std.proofs.Common.{◌∙◌, ap, sym, map}
use Rattle.std.specs.FinMap.{entries}
use Rattle.irc_tables.specs.RowViews.{row_entry}
use Rattle.irc_tables.specs.Lemmas.RowsAsTable.{entries-table_of}
use Rattle.irc_tables.proofs.table.NameTable.as_slice.Goals as goal

pub returns : goal.returns
returns g c = ap (map row_entry) c.as_slice.ensures.value
    ∙ sym (entries-table_of row_entry _ c.self.invariant) ∙ ap entries c.self.view_is
