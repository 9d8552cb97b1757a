use Rattle.std.proofs.Common.{◌∙◌}
use Rattle.irc_names.specs.Fold.{key}
use Rattle.irc_tables.proofs.NameRows.{row_in}
use Rattle.irc_tables.proofs.name_map.NameMap.get.Goals as goal

pub returns-in-Some : goal.returns-in-Some
returns-in-Some g c =
    c.get.ensures.value ∙ row_in c.self.inside.rows c.args.self.now c.in-Some.folded
    (key c.args.name.now) c.self.view_is c.in-Some.ensures.short
