use Rattle.std.proofs.Common.{rules}
use Rattle.irc_channel_commands.proofs.join.is_zero.Goals as goal

pub returns : goal.returns
returns c = search rules
