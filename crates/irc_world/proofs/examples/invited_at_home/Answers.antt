use Rattle.irc_world.proofs.SmallWorldsProved.{invited_at_home}
use Rattle.irc_world.proofs.examples.invited_at_home.Goals as goal

pub returns : goal.returns
returns c = invited_at_home
