use Rattle.irc_own_order.specs.Lemmas.OverAll.{served_is_one_machine}
use Rattle.irc_own_order.proofs.laws.served_is_one_machine.Goals as goal

pub returns : goal.returns
returns c =
    served_is_one_machine c.decided_is_possible.ensures c.decided_by_itself.ensures
    c.registering_is_possible.ensures c.registered_is_added.ensures
    c.unregistered_changes_nothing.ensures
