use Rattle.std.proofs.Common.{rules}
use Rattle.irc_queries.proofs.saying.say.Goals as goal

pub returns-clause-ok : goal.returns-clause-ok
returns-clause-ok c = search rules
