use Rattle.irc_follow.specs.Lemmas.SideFlows.{near_side_is_told}
use Rattle.irc_follow.proofs.laws.near_side_is_told.Goals as goal

pub returns : goal.returns
returns c = near_side_is_told
