use Rattle.std.proofs.Common.{rules}
use Rattle.irc_commands.proofs.registering.choose_nick.Goals as goal

pub returns-then-is_some : goal.returns-then-is_some
returns-then-is_some c = search rules
