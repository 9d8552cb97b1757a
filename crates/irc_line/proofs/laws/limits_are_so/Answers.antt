use Rattle.std.proofs.Common.{rules}
use Rattle.irc_line.proofs.laws.limits_are_so.Goals as goal

pub returns-clause-line : goal.returns-clause-line
returns-clause-line c = search rules
