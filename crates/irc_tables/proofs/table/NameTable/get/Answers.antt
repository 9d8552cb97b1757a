use Rattle.std.proofs.Common.{◌∙◌, ap, sym, subst}
use Rattle.irc_names.specs.Fold.{key}
use Rattle.irc_names.specs.Tables.{row}
use Rattle.irc_tables.specs.FoldedRows.{StandsAt}
use Rattle.irc_tables.specs.RowViews.{row_entry}
use Rattle.irc_tables.specs.Lemmas.RowsAsTable.{row-stands}
use Rattle.irc_tables.proofs.table.NameTable.get.Goals as goal

pub returns-in-Ok : goal.returns-in-Ok
returns-in-Ok g c =
    let fold = key c.args.name.now in
    sym (ap (λ table. row table fold) (sym c.self.view_is)
    ∙ row-stands row_entry _ fold c.in-Ok.place _ c.self.invariant
    (subst (λ rows. StandsAt (row_entry {V = g.row.V.Denot}) rows fold c.in-Ok.place)
    c.deref.ensures.value c.in-Ok.ensures.place) c.index.ensures)
