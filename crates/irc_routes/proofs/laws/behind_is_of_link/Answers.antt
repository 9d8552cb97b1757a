use Rattle.irc_routes.specs.Lemmas.RouteLaws.{behind_is_of_link}
use Rattle.irc_routes.proofs.laws.behind_is_of_link.Goals as goal

pub returns : goal.returns
returns c = behind_is_of_link
