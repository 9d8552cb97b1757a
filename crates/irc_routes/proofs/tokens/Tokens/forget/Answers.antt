use Rattle.std.proofs.Common.{◌∙◌, ap, sym, subst}
use Rattle.irc_tables.specs.FoldedRows.{table_of, IsInFoldedOrder}
use Rattle.irc_tables.specs.Lemmas.RowsAsTable.{row-absent, removed-table, removed-sorted}
use Rattle.irc_tables.specs.Lemmas.RowsAsTable.{alter-absent}
use Rattle.irc_routes.specs.Loops.Tokens.{token_key, token_entry}
use Rattle.irc_routes.proofs.tokens.Tokens.forget.Goals as goal

pub returns-in-Ok-clause-after : goal.returns-in-Ok-clause-after
returns-in-Ok-clause-after c =
    let at = c.in-Ok.ensures.place in
    ap (table_of token_entry) c.remove.ensures.items
    ∙ removed-table token_entry _ (token_key c.args.link c.args.token) c.in-Ok.place _
    c.remove.result c.requires at.within c.remove.ensures.value
    (ap (λ k. (k, c.remove.result)) (ap (λ t. token_key t.link t.token) c.remove.ensures.value
    ∙ at.named _))

pub returns-in-Ok-clause-ordered : goal.returns-in-Ok-clause-ordered
returns-in-Ok-clause-ordered c =
    let at = c.in-Ok.ensures.place in
    subst (λ ts. IsInFoldedOrder token_entry ts) (sym c.remove.ensures.items)
    (removed-sorted token_entry _ (token_key c.args.link c.args.token) c.in-Ok.place _
    c.remove.result c.requires at.within c.remove.ensures.value
    (ap (λ k. (k, c.remove.result)) (ap (λ t. token_key t.link t.token) c.remove.ensures.value
    ∙ at.named _)))

pub returns-in-Err-clause-after : goal.returns-in-Err-clause-after
returns-in-Err-clause-after c =
    sym (alter-absent _ _ (row-absent token_entry _ _ _ c.in-Err.ensures.place))
