use Rattle.irc_net.specs.Making.{everywhere}
use Rattle.tests_networks.proofs.OfRuns.{begins}
use Rattle.tests_networks.proofs.begun.Goals as goal

pub returns : goal.returns
returns c = begins (everywhere c.args.programs) c.args.configs.items c.serving.result c.serving.ensures
