use Rattle.std.proofs.Common.{◌∙◌, ap, sym, subst}
use Rattle.irc_names.specs.Fold.{key}
use Rattle.irc_tables.specs.FoldedRows.{table_of, IsInFoldedOrder, StandsAt, BelongsAt}
use Rattle.irc_tables.specs.RowViews.{row_entry}
use Rattle.irc_tables.specs.Lemmas.RowsAsTable.{row-stands, row-absent, removed-table}
use Rattle.irc_tables.specs.Lemmas.RowsAsTable.{removed-sorted, alter-absent}
use Rattle.irc_tables.proofs.table.take_out.Goals as goal

pub returns-in-Ok-clause-value : goal.returns-in-Ok-clause-value
returns-in-Ok-clause-value g c =
    let at = subst (λ rows. StandsAt (row_entry {V = g.row.V.Denot}) rows
    (key c.args.name.now) c.in-Ok.place) c.deref.ensures.value c.in-Ok.ensures.place in
    sym (row-stands row_entry _ _ c.in-Ok.place _ c.requires at c.remove.ensures.value)

pub returns-in-Ok-clause-after : goal.returns-in-Ok-clause-after
returns-in-Ok-clause-after g c =
    let at = subst (λ rows. StandsAt (row_entry {V = g.row.V.Denot}) rows
    (key c.args.name.now) c.in-Ok.place) c.deref.ensures.value c.in-Ok.ensures.place in
    ap (table_of row_entry) c.remove.ensures.items
    ∙ removed-table row_entry _ _ c.in-Ok.place _ c.remove.result.value c.requires at.within
    c.remove.ensures.value
    (ap (λ k. (k, c.remove.result.value)) (ap (λ r. key r.name.items) c.remove.ensures.value
    ∙ at.named _))

pub returns-in-Ok-clause-ordered : goal.returns-in-Ok-clause-ordered
returns-in-Ok-clause-ordered g c =
    let at = subst (λ rows. StandsAt (row_entry {V = g.row.V.Denot}) rows
    (key c.args.name.now) c.in-Ok.place) c.deref.ensures.value c.in-Ok.ensures.place in
    subst (λ rows. IsInFoldedOrder (row_entry {V = g.row.V.Denot}) rows)
    (sym c.remove.ensures.items)
    (removed-sorted row_entry _ (key c.args.name.now) c.in-Ok.place _ c.remove.result.value
    c.requires at.within c.remove.ensures.value
    (ap (λ k. (k, c.remove.result.value)) (ap (λ r. key r.name.items) c.remove.ensures.value
    ∙ at.named _)))

pub returns-in-Err-clause-after : goal.returns-in-Err-clause-after
returns-in-Err-clause-after g c =
    let gap = subst (λ rows. BelongsAt (row_entry {V = g.row.V.Denot}) rows
    (key c.args.name.now) c.in-Err.field-0) c.deref.ensures.value c.in-Err.ensures.place in
    sym (alter-absent _ _ (row-absent row_entry _ _ _ gap))
