use Rattle.std.proofs.Common.{rules}
use Rattle.irc_names.proofs.matching.front_after_backslash.Goals as goal

pub returns-in-Some-clause-value : goal.returns-in-Some-clause-value
returns-in-Some-clause-value c = search rules
