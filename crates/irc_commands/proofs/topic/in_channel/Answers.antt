use Rattle.std.proofs.Common.{arith}
use Rattle.std.proofs.lemmas.Grind.{common_steps}
use Rattle.irc_commands.proofs.topic.in_channel.Goals as goal

pub returns-in-Some-first : goal.returns-in-Some-first
returns-in-Some-first c = grind (arith, common_steps)

pub returns-in-None : goal.returns-in-None
returns-in-None c = grind (arith, common_steps)
