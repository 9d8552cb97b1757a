use Rattle.irc_merge.specs.Lemmas.SplitInTurn.{squits_split}
use Rattle.irc_merge.proofs.laws.squits_split.Goals as goal

pub returns : goal.returns
returns c = squits_split
