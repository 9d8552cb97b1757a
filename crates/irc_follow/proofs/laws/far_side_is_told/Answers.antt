use Rattle.irc_follow.specs.Lemmas.SideFlows.{far_side_is_told}
use Rattle.irc_follow.proofs.laws.far_side_is_told.Goals as goal

pub returns : goal.returns
returns c = far_side_is_told
