use Rattle.std.proofs.Common.{◌∙◌, ap, sym, subst}
use Rattle.irc_tables.specs.FoldedRows.{table_of, IsInFoldedOrder}
use Rattle.irc_tables.specs.RowViews.{row_entry}
use Rattle.irc_tables.specs.Lemmas.RowsAsTable.{nothing-sorted, nothing-table}
use Rattle.irc_tables.proofs.table.NameTable.new.Goals as goal

pub invariant_of-result : goal.invariant_of-result
invariant_of-result g c = subst (λ rows. IsInFoldedOrder (row_entry {V = g.row.V.Denot}) rows)
    (sym c.new.ensures.items) (nothing-sorted row_entry)

pub returns : goal.returns
returns g c = ap (table_of row_entry) c.new.ensures.items ∙ nothing-table row_entry
