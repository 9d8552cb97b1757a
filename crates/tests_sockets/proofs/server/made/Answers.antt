use Rattle.irc_routes.specs.About.{about_of}
use Rattle.irc_engine.specs.Lemmas.NewServers.{made_has_nobody}
use Rattle.tests_sockets.proofs.server.made.Goals as goal

pub returns-in-Ok : goal.returns-in-Ok
returns-in-Ok c =
    made_has_nobody (about_of c.args.config.own) c.args.config _ c.in-Ok.ensures
