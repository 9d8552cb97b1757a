use Rattle.irc_follow.specs.Lemmas.SideFlows.{one_side_is_left}
use Rattle.irc_follow.proofs.laws.one_side_is_left.Goals as goal

pub returns : goal.returns
returns c = one_side_is_left
