use Rattle.irc_modes.specs.RaisedLaws.{nothing_raised}
use Rattle.irc_modes.proofs.laws.nothing_raised.Goals as goal

pub returns : goal.returns
returns c = nothing_raised
