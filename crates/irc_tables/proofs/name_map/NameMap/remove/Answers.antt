use Rattle.std.proofs.Common.{◌∙◌, sym, subst, refl, None}
use Rattle.irc_names.specs.Fold.{key}
use Rattle.irc_tables.specs.ShortNames.{HasShortNames}
use Rattle.irc_tables.specs.Lemmas.RowsAsTable.{alter-absent}
use Rattle.irc_tables.proofs.NameRows.{row_in, taken_out}
use Rattle.irc_tables.proofs.ShortRows.{short_where_none}
use Rattle.irc_tables.proofs.name_map.NameMap.remove.Goals as goal

pub returns-in-Some-clause-value : goal.returns-in-Some-clause-value
returns-in-Some-clause-value g c =
    c.remove.ensures.value ∙ row_in c.self.inside.rows c.args.self.now c.in-Some.folded
    (key c.args.name.now) c.self.view_is c.in-Some.ensures.short

pub returns-in-Some-clause-after : goal.returns-in-Some-clause-after
returns-in-Some-clause-after g c =
    taken_out c.self.inside.rows c.remove.new.self c.args.self.now c.in-Some.folded
    (key c.args.name.now) c.self.view_is c.in-Some.ensures.short c.remove.ensures.updates

pub invariant_of-self : goal.invariant_of-self
invariant_of-self g c =
    subst HasShortNames
    (sym (taken_out c.self.inside.rows c.remove.new.self _ c.in-Some.folded
    (key c.args.name.now) refl c.in-Some.ensures.short c.remove.ensures.updates))
    (short_where_none _ (key c.args.name.now) (λ _. None) c.self.invariant refl)

pub returns-in-None-clause-after : goal.returns-in-None-clause-after
returns-in-None-clause-after g c =
    sym (alter-absent c.args.self.now (key c.args.name.now) c.in-None.ensures.long)
