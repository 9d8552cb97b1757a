use Rattle.irc_relay.proofs.Queueing.{first_is_oldest}
use Rattle.irc_relay.proofs.laws_of_queues.first_is_oldest.Goals as goal

pub returns : goal.returns
returns g c = first_is_oldest
