use Rattle.irc_merge.proofs.LookingAside.{agree_looks_at_no_invitation}
use Rattle.irc_merge.proofs.laws.agree_looks_at_no_invitation.Goals as goal

pub returns : goal.returns
returns c = agree_looks_at_no_invitation c.home_is_well_formed.ensures
