use Rattle.std.proofs.Common.{rules}
use Rattle.irc_acts.proofs.name_lines.listed.Goals as goal

pub returns-in-Some : goal.returns-in-Some
returns-in-Some c = search rules
