use Rattle.irc_effects.proofs.EndsAndStarts.{join_makes_channel}
use Rattle.irc_effects.proofs.laws.join_makes_channel.Goals as goal

pub returns : goal.returns
returns c = join_makes_channel
