use Rattle.irc_names.specs.GreaterLaws.{greater_is_even}
use Rattle.irc_names.proofs.laws.greater_is_even.Goals as goal

pub returns : goal.returns
returns c = greater_is_even
