use Rattle.std.proofs.Common.{rules}
use Rattle.irc_acts.proofs.names.put_if_listed.Goals as goal

pub returns-else-is_listed : goal.returns-else-is_listed
returns-else-is_listed c = search rules
