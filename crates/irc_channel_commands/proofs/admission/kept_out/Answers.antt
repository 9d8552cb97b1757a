use Rattle.std.proofs.Common.{rules}
use Rattle.irc_channel_commands.proofs.admission.kept_out.Goals as goal

pub returns-then-is_full : goal.returns-then-is_full
returns-then-is_full c = search rules
