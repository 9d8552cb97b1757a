use Rattle.irc_merge.specs.Lemmas.SplitInTurn.{others_stay}
use Rattle.irc_merge.proofs.laws.others_stay.Goals as goal

pub returns : goal.returns
returns c = others_stay
