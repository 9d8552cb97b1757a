use Rattle.irc_merge.proofs.JudgedAtOnce.{members_at_once}
use Rattle.irc_merge.proofs.laws.members_at_once.Goals as goal

pub returns : goal.returns
returns c = members_at_once
