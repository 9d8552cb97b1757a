use Rattle.std.proofs.Common.{◌∙◌, ap, sym, subst, cond, true, false, is_ok}
use Rattle.std.specs.List.{insert}
use Rattle.irc_names.specs.Fold.{key}
use Rattle.irc_tables.specs.FoldedRows.{table_of, IsInFoldedOrder}
use Rattle.irc_tables.specs.RowViews.{row_entry}
use Rattle.irc_tables.specs.Lemmas.RowsAsTable.{added-table, added-sorted}
use Rattle.irc_tables.proofs.table.insert_at.Goals as goal
use Rattle.irc_tables.proofs.table.insert_at.Goals.{in-Ok, in-Err}

pub returns-clause-ok : goal.returns-clause-ok
returns-clause-ok g c =
    elim c.match-insert.branch [
      | in-Ok w ↦ rw w.result-is (
          ap (table_of row_entry) (c.insert.ensures.items ∙ ap (λ r. cond (is_ok r)
          (insert c.args.rows.now.items c.args.place (record {
            name = c.copied.result;
            value = c.args.value;
          })) c.args.rows.now.items) w.in-Ok.is)
          ∙ added-table row_entry _ _ c.args.place c.requires.gap _ c.args.value
          (ap (λ n. (key n, c.args.value)) c.copied.ensures))
      | in-Err w ↦ rw w.result-is tt
    ]

pub returns-clause-ordered : goal.returns-clause-ordered
returns-clause-ordered g c =
    subst (λ rows. IsInFoldedOrder (row_entry {V = g.row.V.Denot}) rows)
    (sym c.insert.ensures.items)
    (elim (is_ok c.insert.result) as (λ ok. IsInFoldedOrder (row_entry {V = g.row.V.Denot})
    (cond ok (insert c.args.rows.now.items c.args.place
    (record { name = c.copied.result; value = c.args.value })) c.args.rows.now.items)) [
      | true ↦ added-sorted row_entry _ (key c.args.name.now) c.args.place c.requires.gap _
          c.args.value (ap (λ n. (key n, c.args.value)) c.copied.ensures) c.requires.ordered
      | false ↦ c.requires.ordered
    ])
