use Rattle.irc_follow.specs.Lemmas.ToldInTurn.{told_by_distance}
use Rattle.irc_follow.proofs.laws.told_by_distance.Goals as goal

pub returns : goal.returns
returns c = told_by_distance
