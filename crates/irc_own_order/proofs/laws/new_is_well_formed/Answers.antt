use Rattle.irc_own_order.specs.Lemmas.OverAll.{new_is_well_formed}
use Rattle.irc_own_order.proofs.laws.new_is_well_formed.Goals as goal

pub returns : goal.returns
returns c = new_is_well_formed
