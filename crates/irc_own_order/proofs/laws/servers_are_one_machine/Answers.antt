use Rattle.irc_own_order.specs.Lemmas.OverAll.{servers_are_one_machine}
use Rattle.irc_own_order.proofs.laws.servers_are_one_machine.Goals as goal

pub returns : goal.returns
returns c = servers_are_one_machine c.served_is_one_machine.ensures
