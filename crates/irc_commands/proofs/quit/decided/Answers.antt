use Rattle.std.proofs.Common.{rules}
use Rattle.irc_commands.specs.CodeViews.{asked_steps}
use Rattle.irc_commands.proofs.quit.decided.Goals as goal

pub returns : goal.returns
unfolding asked_steps
returns c = search rules
