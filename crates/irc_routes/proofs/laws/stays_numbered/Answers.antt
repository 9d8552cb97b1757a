use Rattle.irc_routes.specs.Lemmas.RouteLaws.{stays_numbered}
use Rattle.irc_routes.proofs.laws.stays_numbered.Goals as goal

pub returns : goal.returns
returns c = stays_numbered
