use Rattle.std.proofs.Common.{◌∙◌}
use Rattle.irc_tables.proofs.NameRows.{values_listed}
use Rattle.irc_tables.proofs.name_map.NameMap.values.Goals as goal

pub returns : goal.returns
returns g c = c.values.ensures.rest
    ∙ values_listed c.self.inside.rows c.args.self.now c.self.view_is c.values.ensures.ordered
