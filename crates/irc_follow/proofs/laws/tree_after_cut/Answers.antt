use Rattle.irc_follow.proofs.LostLink.{tree_after_cut}
use Rattle.irc_follow.proofs.laws.tree_after_cut.Goals as goal

pub returns : goal.returns
returns c = tree_after_cut
