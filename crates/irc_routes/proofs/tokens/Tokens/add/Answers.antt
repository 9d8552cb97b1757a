use Rattle.std.proofs.Common.{◌∙◌, ap, sym, subst, refl, cond}
use Rattle.std.specs.List.{insert}
use Rattle.irc_tables.specs.FoldedRows.{table_of, IsInFoldedOrder}
use Rattle.irc_tables.specs.Lemmas.RowsAsTable.{added-table, added-sorted}
use Rattle.irc_routes.specs.Loops.Tokens.{token_entry}
use Rattle.irc_routes.proofs.tokens.Tokens.add.Goals as goal

pub returns-clause-after : goal.returns-clause-after
returns-clause-after c =
    let rows = c.args.self.now.rows.items in
    ap (table_of token_entry) (c.insert.ensures.items
    ∙ ap (λ done. cond done (insert rows c.in-Err.place c.args.row) rows)
    (c.insert.ensures.succeeds c.requires.room))
    ∙ added-table token_entry rows _ c.in-Err.place c.in-Err.ensures.place c.args.row
    c.args.row refl

pub returns-clause-ordered : goal.returns-clause-ordered
returns-clause-ordered c =
    let rows = c.args.self.now.rows.items in
    subst (λ ts. IsInFoldedOrder token_entry ts)
    (sym (c.insert.ensures.items ∙ ap (λ done. cond done (insert rows c.in-Err.place c.args.row)
    rows) (c.insert.ensures.succeeds c.requires.room)))
    (added-sorted token_entry rows _ c.in-Err.place c.in-Err.ensures.place c.args.row c.args.row
    refl c.requires.ordered)
