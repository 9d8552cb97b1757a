use Rattle.std.proofs.Common.{rules}
use Rattle.irc_channel_commands.proofs.admission.opens.Goals as goal

pub returns-in-Some : goal.returns-in-Some
returns-in-Some c = search rules
