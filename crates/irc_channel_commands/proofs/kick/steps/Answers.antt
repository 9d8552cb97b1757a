use Rattle.std.proofs.Common.{rules}
use Rattle.irc_channel_commands.specs.Kick.{kick_steps}
use Rattle.irc_channel_commands.proofs.kick.steps.Goals as goal

pub returns : goal.returns
unfolding kick_steps
returns c = search rules
