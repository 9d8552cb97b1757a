use Rattle.irc_merge.proofs.LookingAside.{burst_tells_no_invitation}
use Rattle.irc_merge.proofs.laws.burst_tells_no_invitation.Goals as goal

pub returns : goal.returns
returns c = burst_tells_no_invitation
