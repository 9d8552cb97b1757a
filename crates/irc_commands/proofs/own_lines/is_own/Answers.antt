use Rattle.std.proofs.Common.{rules}
use Rattle.irc_commands.proofs.own_lines.is_own.Goals as goal

pub returns-in-Some-Some : goal.returns-in-Some-Some
returns-in-Some-Some c = search rules
