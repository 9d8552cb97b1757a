use Rattle.std.proofs.Common.{rules}
use Rattle.irc_channel_commands.proofs.judging.key_judged.Goals as goal

pub returns-in-Some-before : goal.returns-in-Some-before
returns-in-Some-before c = search rules
