use Rattle.std.proofs.Common.{rules}
use Rattle.irc_commands.proofs.registering.complete.Goals as goal

pub returns : goal.returns
returns c = search rules
