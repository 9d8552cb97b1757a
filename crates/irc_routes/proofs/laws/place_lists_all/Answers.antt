use Rattle.irc_routes.specs.Lemmas.RouteLaws.{place_lists_all}
use Rattle.irc_routes.proofs.laws.place_lists_all.Goals as goal

pub returns : goal.returns
returns c = place_lists_all
