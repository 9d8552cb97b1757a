use Rattle.irc_effects.proofs.ExamplesProved.{channel_made_anew}
use Rattle.irc_effects.proofs.examples.channel_made_anew.Goals as goal

pub returns : goal.returns
returns c = channel_made_anew
