use Rattle.irc_own_order.specs.Lemmas.Histories.{is_machine_of_handled}
use Rattle.irc_own_order.proofs.laws.is_machine_of_handled.Goals as goal

pub returns : goal.returns
returns c = is_machine_of_handled
