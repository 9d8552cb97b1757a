use Rattle.std.proofs.Common.{◌∙◌, is_some, refl, sym, subst, IsTrue, Some}
use Rattle.irc_names.specs.Fold.{key}
use Rattle.irc_tables.specs.ShortNames.{HasShortNames}
use Rattle.irc_tables.proofs.NameRows.{row_in, put_in}
use Rattle.irc_tables.proofs.ShortRows.{short_under}
use Rattle.irc_tables.proofs.name_map.NameMap.insert.Goals as goal

pub returns-clause-ok : goal.returns-clause-ok
returns-clause-ok g c =
    put_in c.self.inside.rows c.insert.new.self c.args.self.now c.of.result
    (key c.args.name.now) c.args.value c.self.view_is c.of.ensures c.in-Ok.ensures.updates

pub returns-in_default-clause-there : goal.returns-in_default-clause-there
returns-in_default-clause-there g c = λ there.
    subst (λ o. IsTrue (is_some o))
    (sym (row_in c.self.inside.rows c.args.self.now c.of.result
    (key c.args.name.now) c.self.view_is c.of.ensures) ∙ c.in_default.ensures.absent) there

pub invariant_of-self-2 : goal.invariant_of-self-2
invariant_of-self-2 g c =
    subst HasShortNames
    (sym (put_in c.self.inside.rows c.insert.new.self _ c.of.result
    (key c.args.name.now) c.args.value refl c.of.ensures c.in-Ok.ensures.updates))
    (short_under _ c.args.name.now (λ _. Some c.args.value) c.self.invariant c.requires)
