use Rattle.irc_effects.proofs.ExamplesProved.{invite_to_no_channel_is_told_only}
use Rattle.irc_effects.proofs.examples.invite_to_no_channel_is_told_only.Goals as goal

pub returns : goal.returns
returns c = invite_to_no_channel_is_told_only
