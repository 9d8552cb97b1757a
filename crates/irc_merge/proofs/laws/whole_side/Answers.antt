use Rattle.irc_merge.specs.Lemmas.WholeSides.{whole_side}
use Rattle.irc_merge.proofs.laws.whole_side.Goals as goal

pub returns : goal.returns
returns c = whole_side
