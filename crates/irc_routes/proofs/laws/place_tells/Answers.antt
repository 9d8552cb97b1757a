use Rattle.irc_routes.specs.Lemmas.RouteLaws.{place_tells}
use Rattle.irc_routes.proofs.laws.place_tells.Goals as goal

pub returns : goal.returns
returns c = place_tells
