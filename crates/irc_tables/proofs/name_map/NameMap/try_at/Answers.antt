use Rattle.std.proofs.Common.{◌∙◌, ap, false, is_some, refl, sym, subst, IsTrue, Some}
use Rattle.std.specs.BTreeMap.{BTreeMap}
use Rattle.std.specs.FinMap.{from_entries}
use Rattle.std.specs.Option.{option_map_or}
use Rattle.irc_names.specs.Fold.{key}
use Rattle.irc_names.specs.Tables.{fold_cmp}
use Rattle.irc_tables.specs.ShortNames.{HasShortNames}
use Rattle.irc_tables.specs.Lemmas.RowsAsTable.{ok_also}
use Rattle.irc_tables.proofs.NameRows.{row_in, put_in}
use Rattle.irc_tables.proofs.ShortRows.{short_where_some}
use Rattle.irc_tables.proofs.TriedRows.{err_also, not_tried, put_again, put_changed}
use Rattle.irc_tables.proofs.name_map.NameMap.try_at.Goals as goal

pub returns-in_default-clause-ok : goal.returns-in_default-clause-ok
returns-in_default-clause-ok g c = not_tried c.args.self.now (key c.args.name.now)
    (g.C.RowAttempt.tried c.args.change.now) c.in_default.ensures.long

pub returns-in_default-get_mut-clause-ok : goal.returns-in_default-get_mut-clause-ok
returns-in_default-get_mut-clause-ok g c =
    ap (λ (rows : BTreeMap _ _). from_entries {R = fold_cmp} rows.entries)
    c.get_mut.follows.holds-at-none
    ∙ c.self.view_is
    ∙ not_tried c.args.self.now (key c.args.name.now) (g.C.RowAttempt.tried c.args.change.now)
    (sym (row_in c.self.inside.rows c.args.self.now c.in-Some.folded (key c.args.name.now)
    c.self.view_is c.in-Some.ensures.short) ∙ sym c.in_default-get_mut.ensures.value)

pub invariant_of-self-2 : goal.invariant_of-self-2
invariant_of-self-2 g c =
    subst HasShortNames
    (sym (put_in c.self.inside.rows (c.get_mut.follows.lender c.attempt.new.value) _
    c.in-Some.folded (key c.args.name.now) c.attempt.new.value refl c.in-Some.ensures.short
    ((c.get_mut.follows.holds c.attempt.new.value).3
    (ap is_some (sym c.in-Some-get_mut.ensures.value)))))
    (short_where_some _ (key c.args.name.now)
    (λ _. Some c.attempt.new.value) c.self.invariant c.in-Some-get_mut.value.now
    (sym (row_in c.self.inside.rows _ c.in-Some.folded (key c.args.name.now) refl
    c.in-Some.ensures.short) ∙ sym c.in-Some-get_mut.ensures.value))

pub returns-clause-ok : goal.returns-clause-ok
returns-clause-ok g c =
    ok_also c.attempt.result
    (λ is.
    put_in c.self.inside.rows (c.get_mut.follows.lender c.attempt.new.value) c.args.self.now
    c.in-Some.folded (key c.args.name.now) c.attempt.new.value c.self.view_is
    c.in-Some.ensures.short ((c.get_mut.follows.holds c.attempt.new.value).3
    (ap is_some (sym c.in-Some-get_mut.ensures.value)))
    ∙ put_changed c.args.self.now (key c.args.name.now)
    (g.C.RowAttempt.tried c.args.change.now) c.in-Some-get_mut.value.now c.attempt.new.value
    (sym (row_in c.self.inside.rows c.args.self.now c.in-Some.folded (key c.args.name.now)
    c.self.view_is c.in-Some.ensures.short) ∙ sym c.in-Some-get_mut.ensures.value) is)
    c.attempt.ensures.ok

pub returns-clause-refused : goal.returns-clause-refused
returns-clause-refused g c =
    err_also c.attempt.result
    (λ is.
    put_in c.self.inside.rows (c.get_mut.follows.lender c.attempt.new.value) c.args.self.now
    c.in-Some.folded (key c.args.name.now) c.attempt.new.value c.self.view_is
    c.in-Some.ensures.short ((c.get_mut.follows.holds c.attempt.new.value).3
    (ap is_some (sym c.in-Some-get_mut.ensures.value)))
    ∙ put_again c.args.self.now
    (key c.args.name.now) c.in-Some-get_mut.value.now c.attempt.new.value
    (sym (row_in c.self.inside.rows c.args.self.now c.in-Some.folded (key c.args.name.now)
    c.self.view_is c.in-Some.ensures.short) ∙ sym c.in-Some-get_mut.ensures.value) is)
    c.attempt.ensures.refused

pub returns-clause-absent : goal.returns-clause-absent
returns-clause-absent g c = λ none.
    cc (sym none ∙ sym (row_in c.self.inside.rows c.args.self.now c.in-Some.folded
    (key c.args.name.now) c.self.view_is c.in-Some.ensures.short)
    ∙ sym c.in-Some-get_mut.ensures.value)

pub returns-clause-sure : goal.returns-clause-sure
returns-clause-sure g c = λ sure.
    c.attempt.ensures.sure
    (subst IsTrue
    (ap (λ o. option_map_or (g.C.RowAttempt.surely c.args.change.now) o false)
    (sym (row_in c.self.inside.rows c.args.self.now c.in-Some.folded (key c.args.name.now)
    c.self.view_is c.in-Some.ensures.short) ∙ sym c.in-Some-get_mut.ensures.value))
    sure)
