use Rattle.std.proofs.Common.{◌∙◌, ap, sym, subst, None}
use Rattle.std.specs.Option.{option_and_then}
use Rattle.irc_names.specs.Fold.{key}
use Rattle.irc_names.specs.Tables.{row}
use Rattle.irc_tables.specs.FoldedRows.{BelongsAt}
use Rattle.irc_tables.specs.RowViews.{row_entry}
use Rattle.irc_tables.specs.Lemmas.RowsAsTable.{row-absent, alter-absent, alter_alike}
use Rattle.irc_tables.proofs.table.NameTable.change_at.Goals as goal

pub returns-in-Err : goal.returns-in-Err
returns-in-Err g c =
    let fold = key c.args.name.now in
    let gap = subst (λ rows. BelongsAt (row_entry {V = g.row.V.Denot}) rows fold c.in-Err.field-0)
    c.deref.ensures.value c.in-Err.ensures.place in
    let none = ap (λ t. row t fold) (sym c.self.view_is) ∙ row-absent row_entry _ _ _ gap in
    sym (alter-absent c.args.self.now fold none)
    ∙ alter_alike c.args.self.now fold (λ _. None)
    (option_and_then (g.C.RowChange.changed c.args.change.now))
    (ap (option_and_then (g.C.RowChange.changed c.args.change.now)) (sym none))
