use Rattle.irc_merge.proofs.MembersStaying.{members_stay}
use Rattle.irc_merge.proofs.laws.members_stay.Goals as goal

pub returns : goal.returns
returns c = members_stay
