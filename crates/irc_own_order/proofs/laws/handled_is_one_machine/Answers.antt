use Rattle.irc_own_order.specs.Lemmas.OverAll.{handled_is_one_machine}
use Rattle.irc_own_order.proofs.laws.handled_is_one_machine.Goals as goal

pub returns : goal.returns
returns c = handled_is_one_machine c.served_is_one_machine.ensures
