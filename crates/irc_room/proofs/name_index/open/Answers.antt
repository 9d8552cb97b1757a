use Rattle.std.proofs.Common.{◌∙◌, ap, sym, Some}
use Rattle.irc_names.specs.Lemmas.PlainFacts.{none_if_not_some}
use Rattle.irc_names.specs.Fold.{key}
use Rattle.irc_names.specs.Tables.{row, alter}
use Rattle.irc_tables.specs.Lemmas.RowsAsTable.{ok_also}
use Rattle.irc_room.proofs.IndexChanges.{opened}
use Rattle.irc_room.proofs.name_index.open.Goals as goal

pub returns-clause-ok : goal.returns-clause-ok
returns-clause-ok c =
    ok_also c.insert.result
    (λ is. opened c.args.rows.now _ (key c.args.nick.now) (none_if_not_some (row c.args.rows.now
    (key c.args.nick.now)) (sym c.has_row.ensures ∙ c.if-has_row.false))
    (is ∙ ap (λ names. alter (key c.args.nick.now) (λ _. Some names) c.args.rows.now)
    c.in_ok-names.ensures))
    c.insert.ensures.ok
