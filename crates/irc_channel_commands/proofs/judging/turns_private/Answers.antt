use Rattle.std.proofs.Common.{rules}
use Rattle.irc_channel_commands.proofs.judging.turns_private.Goals as goal

pub returns-in-Secret : goal.returns-in-Secret
returns-in-Secret c = search rules
