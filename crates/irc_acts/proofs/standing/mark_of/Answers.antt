use Rattle.std.proofs.Common.{rules}
use Rattle.irc_acts.proofs.standing.mark_of.Goals as goal

pub returns-then-flags-2 : goal.returns-then-flags-2
returns-then-flags-2 c = search rules
