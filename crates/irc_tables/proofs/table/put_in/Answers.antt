use Rattle.std.proofs.Common.{◌∙◌, ap, subst}
use Rattle.irc_names.specs.Fold.{key}
use Rattle.irc_tables.specs.FoldedRows.{StandsAt}
use Rattle.irc_tables.specs.RowViews.{row_entry}
use Rattle.irc_tables.specs.Lemmas.RowsAsTable.{replaced-table, replaced-sorted}
use Rattle.irc_tables.proofs.table.put_in.Goals as goal

pub returns-in-Ok-clause-after : goal.returns-in-Ok-clause-after
returns-in-Ok-clause-after g c =
    let at = subst (λ rows. StandsAt (row_entry {V = g.row.V.Denot}) rows
    (key c.args.name.now) c.in-Ok.place) c.deref.ensures.value c.in-Ok.ensures.place in
    let there = ap (λ r. key r.name.items) c.index_mut.ensures.value ∙ at.named _ in
    replaced-table row_entry _ (key c.args.name.now) c.in-Ok.place c.index_mut.result.now
    c.index_mut.result.now.value c.requires.ordered at.within c.index_mut.ensures.value
    (ap (λ k. (k, c.index_mut.result.now.value)) there) _ c.args.value
    (ap (λ k. (k, c.args.value)) there)

pub returns-in-Ok-clause-ordered : goal.returns-in-Ok-clause-ordered
returns-in-Ok-clause-ordered g c =
    let at = subst (λ rows. StandsAt (row_entry {V = g.row.V.Denot}) rows
    (key c.args.name.now) c.in-Ok.place) c.deref.ensures.value c.in-Ok.ensures.place in
    let there = ap (λ r. key r.name.items) c.index_mut.ensures.value ∙ at.named _ in
    replaced-sorted row_entry _ (key c.args.name.now) c.in-Ok.place c.index_mut.result.now
    c.index_mut.result.now.value c.requires.ordered at.within c.index_mut.ensures.value
    (ap (λ k. (k, c.index_mut.result.now.value)) there) _ c.args.value
    (ap (λ k. (k, c.args.value)) there)
