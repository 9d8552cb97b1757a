use Rattle.std.proofs.Common.{◌∙◌, ap, sym, length}
use Rattle.std.specs.FinMap.{keys}
use Rattle.irc_tables.specs.RowViews.{row_entry}
use Rattle.irc_tables.specs.Lemmas.RowsAsTable.{length-keys}
use Rattle.irc_tables.proofs.table.NameTable.len.Goals as goal

pub returns : goal.returns
returns g c = ap length c.as_slice.ensures.value
    ∙ sym (length-keys row_entry c.self.inside.rows.items c.self.invariant)
    ∙ ap (λ t. length (keys t)) c.self.view_is
