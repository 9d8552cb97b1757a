use Rattle.irc_routes.specs.Lemmas.RouteLaws.{added_gets_smallest}
use Rattle.irc_routes.proofs.laws.added_gets_smallest.Goals as goal

pub returns : goal.returns
returns c = added_gets_smallest
