use Rattle.irc_merge.proofs.ExamplesProved.{modes_are_joined}
use Rattle.irc_merge.proofs.examples.modes_are_joined.Goals as goal

pub returns : goal.returns
returns c = modes_are_joined
