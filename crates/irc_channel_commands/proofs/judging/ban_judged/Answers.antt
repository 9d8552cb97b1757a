use Rattle.std.proofs.Common.{rules}
use Rattle.irc_channel_commands.proofs.judging.ban_judged.Goals as goal

pub returns-in-Some-2 : goal.returns-in-Some-2
returns-in-Some-2 c = search rules

pub returns-in-None-2 : goal.returns-in-None-2
returns-in-None-2 c = search rules
