use Rattle.std.proofs.Common.{◌∙◌}
use Rattle.irc_tables.proofs.NameRows.{length_listed}
use Rattle.irc_tables.proofs.name_map.NameMap.len.Goals as goal

pub returns : goal.returns
returns g c = c.len.ensures.len
    ∙ length_listed c.self.inside.rows c.args.self.now c.self.view_is c.len.ensures.ordered
