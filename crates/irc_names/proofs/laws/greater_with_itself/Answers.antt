use Rattle.irc_names.specs.GreaterLaws.{greater_with_itself}
use Rattle.irc_names.proofs.laws.greater_with_itself.Goals as goal

pub returns : goal.returns
returns c = greater_with_itself
