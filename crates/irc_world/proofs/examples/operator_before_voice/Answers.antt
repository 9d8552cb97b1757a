use Rattle.irc_world.proofs.SmallWorldsProved.{operator_before_voice}
use Rattle.irc_world.proofs.examples.operator_before_voice.Goals as goal

pub returns : goal.returns
returns c = operator_before_voice
