use Rattle.std.proofs.Common.{rules}
use Rattle.irc_channel_commands.proofs.judging.word_judged.Goals as goal

pub returns-in_default-user : goal.returns-in_default-user
returns-in_default-user c = search rules

pub returns : goal.returns
returns c = search rules
