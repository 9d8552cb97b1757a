use Rattle.irc_merge.specs.Lemmas.SplitInTurn.{split_is_well_formed}
use Rattle.irc_merge.proofs.laws.split_is_well_formed.Goals as goal

pub returns : goal.returns
returns c = split_is_well_formed
