use Rattle.std.proofs.Common.{ap, ◌∙◌}
use Rattle.irc_routes.specs.About.{about_of, serves}
use Rattle.irc_routes.specs.Known.{others}
use Rattle.irc_stage.specs.Lemmas.Alone.{knows_no_other}
use Rattle.irc_server.proofs.server.Server.serving.Goals as goal

pub begun-requires : goal.begun-requires
begun-requires c = record {
  alone = ap others c.serving-routes.ensures ∙ knows_no_other c.args.config.own.name.items
      (serves c.args.programs (about_of c.args.config.own));
}
