use Rattle.std.proofs.Common.{rules}
use Rattle.irc_queries.proofs.who.say_user.Goals as goal

pub returns-then-is_seen-clause-ok : goal.returns-then-is_seen-clause-ok
returns-then-is_seen-clause-ok c = search rules
