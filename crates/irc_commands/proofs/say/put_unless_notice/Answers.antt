use Rattle.std.proofs.Common.{rules}
use Rattle.irc_commands.proofs.say.put_unless_notice.Goals as goal

pub returns-then-matches : goal.returns-then-matches
returns-then-matches c = search rules

pub returns : goal.returns
returns c = search rules
