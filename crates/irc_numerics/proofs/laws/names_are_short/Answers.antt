use Rattle.irc_numerics.proofs.Lengths as lengths
use Rattle.irc_numerics.proofs.laws.names_are_short.Goals as goal

pub returns : goal.returns
returns c = lengths.names_are_short
