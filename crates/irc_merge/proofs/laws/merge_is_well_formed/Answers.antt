use Rattle.irc_merge.specs.Lemmas.Joining.{merge_is_well_formed}
use Rattle.irc_merge.proofs.laws.merge_is_well_formed.Goals as goal

pub returns : goal.returns
returns c = merge_is_well_formed
