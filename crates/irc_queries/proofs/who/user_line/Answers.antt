use Rattle.std.proofs.Common.{rules}
use Rattle.irc_queries.proofs.who.user_line.Goals as goal

pub returns : goal.returns
returns c = search rules
