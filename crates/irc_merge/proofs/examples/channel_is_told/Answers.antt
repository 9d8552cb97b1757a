use Rattle.irc_merge.proofs.ExamplesProved.{channel_is_told}
use Rattle.irc_merge.proofs.examples.channel_is_told.Goals as goal

pub returns : goal.returns
returns c = channel_is_told
