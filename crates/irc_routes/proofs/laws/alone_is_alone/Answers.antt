use Rattle.irc_routes.specs.Lemmas.RouteLaws.{alone_is_alone}
use Rattle.irc_routes.proofs.laws.alone_is_alone.Goals as goal

pub returns : goal.returns
returns c = alone_is_alone
