use Rattle.std.proofs.Common.{rules, ◌≡◌, refl, ◌∙◌, ap}
use Rattle.irc_names.specs.Tables.{each}
use Rattle.irc_tables.specs.RowViews.{row_entry}
use Rattle.irc_tables.specs.Lemmas.ChangedRows.{retained-sorted, retained-table}
use Rattle.irc_tables.proofs.table.NameTable.change_each.Goals as goal

pub invariant_of-self : goal.invariant_of-self
invariant_of-self g c =
    retained-sorted row_entry (g.C.RowChange.changed c.args.change.now)
    (λ f. f.0.now ≡ c.args.change.now) _
    (λ s x b t y held call.
    let shows = call.shows in let leaves = call.leaves in let called = call.called in
    record { still = search rules; named = search rules; value = search rules })
    _ _ _ refl c.retain_mut.ensures.filtered c.self.invariant

pub returns : goal.returns
returns g c =
    retained-table row_entry (g.C.RowChange.changed c.args.change.now)
    (λ f. f.0.now ≡ c.args.change.now) _
    (λ s x b t y held call.
    let shows = call.shows in let leaves = call.leaves in let called = call.called in
    record { still = search rules; named = search rules; value = search rules })
    _ _ _ refl c.retain_mut.ensures.filtered c.self.invariant
    ∙ ap (each (g.C.RowChange.changed c.args.change.now)) c.self.view_is
