use Rattle.std.proofs.Common.{false, IsTrue, ◌∙◌, ap, sym, subst, Some}
use Rattle.std.specs.Option.{option_map, option_map_or}
use Rattle.irc_names.specs.Fold.{key}
use Rattle.irc_tables.specs.RowViews.{row_entry}
use Rattle.irc_tables.specs.Lemmas.RowsAsTable.{replaced-table, replaced-sorted, row-present}
use Rattle.irc_tables.specs.Lemmas.RowsAsTable.{alter_alike, ok_also}
use Rattle.irc_tables.proofs.table.try_row.Goals as goal

pub returns-clause-ok : goal.returns-clause-ok
returns-clause-ok g c =
    let fold = key c.args.name.now in
    let x = c.index_mut.result.now in
    let w = c.attempt.new.value in
    let there = ap (λ r. key r.name.items) c.index_mut.ensures.value ∙ c.requires.at.named _ in
    ok_also c.attempt.result
    (λ is.
    replaced-table row_entry c.args.rows.now.items fold c.args.place x x.value c.requires.ordered
    c.requires.at.within c.index_mut.ensures.value
    (ap (λ k. (k, x.value)) there) _ w (ap (λ k. (k, w)) there)
    ∙ alter_alike _ fold (λ _. Some w) (option_map (g.C.RowAttempt.tried c.args.change.now))
    (sym (ap (option_map (g.C.RowAttempt.tried c.args.change.now))
    (row-present row_entry c.args.rows.now.items fold c.args.place x x.value c.requires.ordered
    c.requires.at.within c.index_mut.ensures.value (ap (λ k. (k, x.value)) there))
    ∙ ap Some (sym is))))
    c.attempt.ensures.ok

pub returns-clause-ordered : goal.returns-clause-ordered
returns-clause-ordered g c =
    let fold = key c.args.name.now in
    let x = c.index_mut.result.now in
    let w = c.attempt.new.value in
    let there = ap (λ r. key r.name.items) c.index_mut.ensures.value ∙ c.requires.at.named _ in
    replaced-sorted row_entry c.args.rows.now.items fold c.args.place x x.value c.requires.ordered
    c.requires.at.within c.index_mut.ensures.value
    (ap (λ k. (k, x.value)) there) _ w (ap (λ k. (k, w)) there)

pub returns-clause-sure : goal.returns-clause-sure
returns-clause-sure g c =
    let fold = key c.args.name.now in
    let x = c.index_mut.result.now in
    let there = ap (λ r. key r.name.items) c.index_mut.ensures.value ∙ c.requires.at.named _ in
    let stands =
    row-present row_entry c.args.rows.now.items fold c.args.place x x.value c.requires.ordered
    c.requires.at.within c.index_mut.ensures.value
    (ap (λ k. (k, x.value)) there) in
    λ sure. c.attempt.ensures.sure (subst IsTrue
    (ap (λ o. option_map_or (g.C.RowAttempt.surely c.args.change.now) o false) stands) sure)
