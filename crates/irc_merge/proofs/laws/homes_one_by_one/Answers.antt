use Rattle.irc_merge.specs.Lemmas.SplitInTurn.{homes_one_by_one}
use Rattle.irc_merge.proofs.laws.homes_one_by_one.Goals as goal

pub returns : goal.returns
returns c = homes_one_by_one
