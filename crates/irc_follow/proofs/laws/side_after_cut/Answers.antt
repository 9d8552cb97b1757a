use Rattle.irc_follow.proofs.LostLink.{side_after_cut}
use Rattle.irc_follow.proofs.laws.side_after_cut.Goals as goal

pub returns : goal.returns
returns c = side_after_cut
