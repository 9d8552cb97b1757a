use Rattle.std.proofs.Common.{rules}
use Rattle.irc_channel_commands.proofs.kick.next_kick.Goals as goal

pub returns : goal.returns
returns c = search rules
