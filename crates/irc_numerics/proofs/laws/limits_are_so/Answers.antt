use Rattle.std.proofs.Common.{rules}
use Rattle.irc_numerics.proofs.laws.limits_are_so.Goals as goal

pub returns-clause-names : goal.returns-clause-names
returns-clause-names c = search rules
