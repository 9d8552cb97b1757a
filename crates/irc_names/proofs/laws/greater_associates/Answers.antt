use Rattle.irc_names.specs.GreaterLaws.{greater_associates}
use Rattle.irc_names.proofs.laws.greater_associates.Goals as goal

pub returns : goal.returns
returns c = greater_associates
