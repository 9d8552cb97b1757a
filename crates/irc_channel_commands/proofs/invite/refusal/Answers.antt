use Rattle.std.proofs.Common.{rules}
use Rattle.irc_channel_commands.proofs.invite.refusal.Goals as goal

pub returns-then-is_none : goal.returns-then-is_none
returns-then-is_none c = search rules
