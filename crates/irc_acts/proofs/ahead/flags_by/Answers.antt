use Rattle.std.proofs.Common.{rules}
use Rattle.irc_acts.proofs.ahead.flags_by.Goals as goal

pub returns-in_default-5 : goal.returns-in_default-5
returns-in_default-5 c = search rules
