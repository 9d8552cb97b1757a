use Rattle.irc_script.proofs.InOrder.{order_is_so}
use Rattle.irc_script.proofs.laws.servers_are_in_order.Goals as goal

pub returns : goal.returns
returns c = order_is_so
