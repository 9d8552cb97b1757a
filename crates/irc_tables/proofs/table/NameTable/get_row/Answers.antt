use Rattle.std.proofs.Common.{◌∙◌, ap, subst, option_map}
use Rattle.irc_names.specs.Fold.{key}
use Rattle.irc_names.specs.Tables.{row}
use Rattle.irc_tables.specs.FoldedRows.{StandsAt}
use Rattle.irc_tables.specs.RowViews.{row_entry}
use Rattle.irc_tables.specs.Lemmas.RowsAsTable.{entry-stands}
use Rattle.irc_tables.proofs.table.NameTable.get_row.Goals as goal

pub returns-in-Ok : goal.returns-in-Ok
returns-in-Ok g c =
    let fold = key c.args.name.now in
    entry-stands row_entry _ fold c.in-Ok.place _ c.self.invariant
    (subst (λ rows. StandsAt (row_entry {V = g.row.V.Denot}) rows fold c.in-Ok.place)
    c.deref.ensures.value c.in-Ok.ensures.place) c.index.ensures
    ∙ ap (λ table. option_map (λ value. (fold, value)) (row table fold)) c.self.view_is
