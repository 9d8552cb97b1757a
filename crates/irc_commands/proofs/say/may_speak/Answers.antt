use Rattle.std.proofs.Common.{rules}
use Rattle.irc_commands.proofs.say.may_speak.Goals as goal

pub returns-then-raised-2 : goal.returns-then-raised-2
returns-then-raised-2 c = search rules

pub returns-else-raised-2 : goal.returns-else-raised-2
returns-else-raised-2 c = search rules

pub returns-else-raised : goal.returns-else-raised
returns-else-raised c = search rules
