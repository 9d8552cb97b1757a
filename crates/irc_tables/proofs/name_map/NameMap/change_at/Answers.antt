use Rattle.std.proofs.Common.{◌∙◌, ap, is_some, refl, sym, subst, Some, None}
use Rattle.std.specs.BTreeMap.{BTreeMap}
use Rattle.std.specs.FinMap.{from_entries}
use Rattle.irc_names.specs.Fold.{key}
use Rattle.irc_names.specs.Tables.{fold_cmp}
use Rattle.irc_tables.specs.ShortNames.{HasShortNames}
use Rattle.irc_tables.proofs.NameRows.{row_in, put_in, taken_out}
use Rattle.irc_tables.proofs.ShortRows.{short_where_none, short_where_some}
use Rattle.irc_tables.proofs.TriedRows.{not_there, changed_goes, changed_stays}
use Rattle.irc_tables.proofs.name_map.NameMap.change_at.Goals.{in-Some-1, in-None-1}
use Rattle.irc_tables.proofs.name_map.NameMap.change_at.Goals as goal

pub returns-in_default : goal.returns-in_default
returns-in_default g c =
    not_there c.args.self.now (key c.args.name.now) (g.C.RowChange.changed c.args.change.now)
    c.in_default.ensures.long

pub returns-in_default-get_mut : goal.returns-in_default-get_mut
returns-in_default-get_mut g c =
    let fold = key c.args.name.now in
    let short = c.in-Some.ensures.short in
    ap (λ (rows : BTreeMap _ _). from_entries {R = fold_cmp} rows.entries)
    c.get_mut.follows.holds-at-none
    ∙ c.self.view_is
    ∙ not_there c.args.self.now fold (g.C.RowChange.changed c.args.change.now)
    (sym (row_in c.self.inside.rows c.args.self.now c.in-Some.folded fold c.self.view_is short)
    ∙ sym c.in_default-get_mut.ensures.value)

pub invariant_of-self-else-not-stays : goal.invariant_of-self-else-not-stays
invariant_of-self-else-not-stays g c =
    let fold = key c.args.name.now in
    let w = c.change-stays.new.value in
    let short = c.in-Some.ensures.short in
    let found = c.in-Some-get_mut.ensures.value in
    let updates = (c.get_mut.follows.holds w).3 (ap is_some (sym found)) in
    subst HasShortNames
    (sym (put_in c.self.inside.rows (c.get_mut.follows.lender w) _ c.in-Some.folded fold w refl
    short updates))
    (short_where_some _ fold (λ _. Some w) c.self.invariant c.in-Some-get_mut.value.now
    (sym (row_in c.self.inside.rows _ c.in-Some.folded fold refl short) ∙ sym found))

pub invariant_of-self-then-not-stays : goal.invariant_of-self-then-not-stays
invariant_of-self-then-not-stays g c =
    let fold = key c.args.name.now in
    let w = c.change-stays.new.value in
    let short = c.in-Some.ensures.short in
    let found = c.in-Some-get_mut.ensures.value in
    let updates = (c.get_mut.follows.holds w).3 (ap is_some (sym found)) in
    subst HasShortNames
    (sym (taken_out (c.get_mut.follows.lender w) c.remove.new.self _ c.in-Some.folded fold
    (put_in c.self.inside.rows (c.get_mut.follows.lender w) _ c.in-Some.folded fold w refl
    short updates) short c.remove.ensures.updates))
    (short_where_none _ fold (λ _. None)
    (short_where_some _ fold (λ _. Some w) c.self.invariant c.in-Some-get_mut.value.now
    (sym (row_in c.self.inside.rows _ c.in-Some.folded fold refl short) ∙ sym found)) refl)

pub returns-then-not-stays : goal.returns-then-not-stays
returns-then-not-stays g c =
    let table = c.args.self.now in
    let fold = key c.args.name.now in
    let w = c.change-stays.new.value in
    let short = c.in-Some.ensures.short in
    let found = c.in-Some-get_mut.ensures.value in
    let shows = c.self.view_is in
    let updates = (c.get_mut.follows.holds w).3 (ap is_some (sym found)) in
    elim c.match-remove.branch [
      | in-Some-1 b ↦ b.self-is
      | in-None-1 b ↦ b.self-is
    ]
    ∙ taken_out (c.get_mut.follows.lender w) c.remove.new.self _ c.in-Some.folded fold
    (put_in c.self.inside.rows (c.get_mut.follows.lender w) table c.in-Some.folded fold w shows
    short updates) short c.remove.ensures.updates
    ∙ changed_goes table fold
    (g.C.RowChange.changed c.args.change.now) c.in-Some-get_mut.value.now w
    c.change-stays.result
    (sym (row_in c.self.inside.rows table c.in-Some.folded fold shows short) ∙ sym found)
    c.change-stays.ensures c.if-not-stays.true

pub returns-else-not-stays : goal.returns-else-not-stays
returns-else-not-stays g c =
    let table = c.args.self.now in
    let fold = key c.args.name.now in
    let w = c.change-stays.new.value in
    let short = c.in-Some.ensures.short in
    let found = c.in-Some-get_mut.ensures.value in
    let shows = c.self.view_is in
    let updates = (c.get_mut.follows.holds w).3 (ap is_some (sym found)) in
    put_in c.self.inside.rows (c.get_mut.follows.lender w) table c.in-Some.folded fold w shows
    short updates
    ∙ changed_stays table fold
    (g.C.RowChange.changed c.args.change.now) c.in-Some-get_mut.value.now w
    c.change-stays.result
    (sym (row_in c.self.inside.rows table c.in-Some.folded fold shows short) ∙ sym found)
    c.change-stays.ensures c.if-not-stays.false
