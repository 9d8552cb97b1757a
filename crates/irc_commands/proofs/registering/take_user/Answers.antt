use Rattle.std.proofs.Common.{arith}
use Rattle.std.proofs.lemmas.Grind.{common_steps}
use Rattle.irc_commands.proofs.registering.take_user.Goals as goal

pub returns : goal.returns
returns c = grind (arith, common_steps)
