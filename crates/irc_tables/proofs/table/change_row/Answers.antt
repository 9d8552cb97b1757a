use Rattle.std.proofs.Common.{◌∙◌, ap, sym, subst, Some, None}
use Rattle.std.specs.Option.{option_and_then}
use Rattle.irc_names.specs.Fold.{key}
use Rattle.irc_tables.specs.FoldedRows.{table_of, IsInFoldedOrder}
use Rattle.irc_tables.specs.RowViews.{row_entry}
use Rattle.irc_tables.specs.Lemmas.RowsAsTable.{replaced-table, replaced-sorted, removed-table}
use Rattle.irc_tables.specs.Lemmas.RowsAsTable.{removed-sorted, remove_changed, row-present}
use Rattle.irc_tables.specs.Lemmas.RowsAsTable.{alter_alike, said_goes, said_stays}
use Rattle.irc_tables.proofs.table.change_row.Goals as goal

pub returns-then-not-stays-clause-after : goal.returns-then-not-stays-clause-after
returns-then-not-stays-clause-after g c =
    let fold = key c.args.name.now in
    let x = c.index_mut.result.now in
    let named = ap (λ k. (k, x.value)) (ap (λ r. key r.name.items) c.index_mut.ensures.value
    ∙ c.requires.at.named _) in
    ap (table_of row_entry) (c.remove.ensures.items ∙ remove_changed _ c.args.place _)
    ∙ removed-table row_entry c.args.rows.now.items fold c.args.place x x.value c.requires.ordered
    c.requires.at.within c.index_mut.ensures.value named
    ∙ alter_alike _ fold (λ _. None) (option_and_then (g.C.RowChange.changed c.args.change.now))
    (sym (ap (option_and_then (g.C.RowChange.changed c.args.change.now))
    (row-present row_entry c.args.rows.now.items fold c.args.place x x.value c.requires.ordered
    c.requires.at.within c.index_mut.ensures.value named)
    ∙ said_goes c.change-stays.result _ c.change-stays.new.value c.change-stays.ensures
    c.if-not-stays.true))

pub returns-then-not-stays-clause-ordered : goal.returns-then-not-stays-clause-ordered
returns-then-not-stays-clause-ordered g c =
    let fold = key c.args.name.now in
    let x = c.index_mut.result.now in
    let named = ap (λ k. (k, x.value)) (ap (λ r. key r.name.items) c.index_mut.ensures.value
    ∙ c.requires.at.named _) in
    subst (λ rows. IsInFoldedOrder (row_entry {V = g.row.V.Denot}) rows)
    (sym (c.remove.ensures.items ∙ remove_changed _ c.args.place _))
    (removed-sorted row_entry c.args.rows.now.items fold c.args.place x x.value c.requires.ordered
    c.requires.at.within c.index_mut.ensures.value named)

pub returns-else-not-stays-clause-after : goal.returns-else-not-stays-clause-after
returns-else-not-stays-clause-after g c =
    let fold = key c.args.name.now in
    let x = c.index_mut.result.now in
    let w = c.change-stays.new.value in
    let there = ap (λ r. key r.name.items) c.index_mut.ensures.value ∙ c.requires.at.named _ in
    replaced-table row_entry c.args.rows.now.items fold c.args.place x x.value c.requires.ordered
    c.requires.at.within c.index_mut.ensures.value
    (ap (λ k. (k, x.value)) there) _ w (ap (λ k. (k, w)) there)
    ∙ alter_alike _ fold (λ _. Some w) (option_and_then (g.C.RowChange.changed c.args.change.now))
    (sym (ap (option_and_then (g.C.RowChange.changed c.args.change.now))
    (row-present row_entry c.args.rows.now.items fold c.args.place x x.value c.requires.ordered
    c.requires.at.within c.index_mut.ensures.value (ap (λ k. (k, x.value)) there))
    ∙ said_stays c.change-stays.result _ w c.change-stays.ensures c.if-not-stays.false))

pub returns-else-not-stays-clause-ordered : goal.returns-else-not-stays-clause-ordered
returns-else-not-stays-clause-ordered g c =
    let fold = key c.args.name.now in
    let x = c.index_mut.result.now in
    let w = c.change-stays.new.value in
    let there = ap (λ r. key r.name.items) c.index_mut.ensures.value ∙ c.requires.at.named _ in
    replaced-sorted row_entry c.args.rows.now.items fold c.args.place x x.value c.requires.ordered
    c.requires.at.within c.index_mut.ensures.value
    (ap (λ k. (k, x.value)) there) _ w (ap (λ k. (k, w)) there)
