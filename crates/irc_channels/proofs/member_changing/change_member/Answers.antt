use Rattle.std.proofs.Common.{rules}
use Rattle.irc_channels.proofs.member_changing.change_member.Goals as goal

pub returns-in-Operator : goal.returns-in-Operator
returns-in-Operator c = search rules
