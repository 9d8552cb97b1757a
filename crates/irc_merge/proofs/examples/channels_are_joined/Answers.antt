use Rattle.irc_merge.proofs.ExamplesProved.{channels_are_joined}
use Rattle.irc_merge.proofs.examples.channels_are_joined.Goals as goal

pub returns : goal.returns
returns c = channels_are_joined
