use Rattle.irc_merge.proofs.Sides.{side_is_well_formed}
use Rattle.irc_merge.proofs.laws.side_is_well_formed.Goals as goal

pub returns : goal.returns
returns c = side_is_well_formed
