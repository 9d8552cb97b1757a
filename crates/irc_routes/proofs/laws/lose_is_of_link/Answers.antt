use Rattle.irc_routes.specs.Lemmas.RouteLaws.{lose_is_of_link}
use Rattle.irc_routes.proofs.laws.lose_is_of_link.Goals as goal

pub returns : goal.returns
returns c = lose_is_of_link
