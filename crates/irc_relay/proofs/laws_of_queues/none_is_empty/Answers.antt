use Rattle.irc_relay.proofs.Queueing.{none_is_empty}
use Rattle.irc_relay.proofs.laws_of_queues.none_is_empty.Goals as goal

pub returns : goal.returns
returns g c = none_is_empty
