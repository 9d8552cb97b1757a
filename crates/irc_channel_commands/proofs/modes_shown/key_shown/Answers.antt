use Rattle.std.proofs.Common.{rules}
use Rattle.irc_channel_commands.proofs.modes_shown.key_shown.Goals as goal

pub returns-else-member : goal.returns-else-member
returns-else-member c = search rules
