use Rattle.std.proofs.Common.{arith}
use Rattle.std.proofs.lemmas.Grind.{common_steps}
use Rattle.irc_acts.proofs.comma_lists.entry_count.Goals as goal

pub loop-behind-preserved : goal.loop-behind-preserved
loop-behind-preserved c = grind (arith, common_steps)
