use Rattle.irc_routes.specs.Lemmas.RouteLaws.{smallest_is_free}
use Rattle.irc_routes.proofs.laws.smallest_is_free.Goals as goal

pub returns : goal.returns
returns c = smallest_is_free
