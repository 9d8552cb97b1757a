use Rattle.irc_relay.proofs.Queueing.{sent_is_behind}
use Rattle.irc_relay.proofs.laws_of_queues.sent_is_behind.Goals as goal

pub returns : goal.returns
returns g c = sent_is_behind
