use Rattle.irc_own_order.specs.Lemmas.OverAll.{effects_are_in_order}
use Rattle.irc_own_order.proofs.laws.effects_are_in_order.Goals as goal

pub returns : goal.returns
returns c = effects_are_in_order
