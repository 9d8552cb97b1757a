use Rattle.irc_effects.proofs.ExamplesProved.{invitation_gone_with_channel}
use Rattle.irc_effects.proofs.examples.invitation_gone_with_channel.Goals as goal

pub returns : goal.returns
returns c = invitation_gone_with_channel
