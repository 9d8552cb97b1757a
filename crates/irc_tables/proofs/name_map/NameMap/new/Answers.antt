use Rattle.std.proofs.Common.{ap, sym, subst}
use Rattle.std.specs.FinMap.{from_entries}
use Rattle.irc_names.specs.Tables.{fold_cmp}
use Rattle.irc_tables.specs.ShortNames.{HasShortNames}
use Rattle.irc_tables.proofs.ShortRows.{none_at_first}
use Rattle.irc_tables.proofs.name_map.NameMap.new.Goals as goal

pub returns : goal.returns
returns g c = ap (from_entries {R = fold_cmp}) c.new.ensures.empty

pub invariant_of-result : goal.invariant_of-result
invariant_of-result g c =
    subst (λ table. HasShortNames {X = g.row.V.Denot} table)
    (sym (ap (from_entries {R = fold_cmp}) c.new.ensures.empty)) (none_at_first g.row.V.Denot)
