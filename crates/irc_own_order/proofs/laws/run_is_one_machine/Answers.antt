use Rattle.irc_own_order.specs.Lemmas.Histories.{run_is_one_machine}
use Rattle.irc_own_order.proofs.laws.run_is_one_machine.Goals as goal

pub returns : goal.returns
returns c = run_is_one_machine c.servers_are_one_machine.ensures
