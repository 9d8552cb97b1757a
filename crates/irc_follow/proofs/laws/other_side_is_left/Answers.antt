use Rattle.irc_follow.specs.Lemmas.SideFlows.{other_side_is_left}
use Rattle.irc_follow.proofs.laws.other_side_is_left.Goals as goal

pub returns : goal.returns
returns c = other_side_is_left
