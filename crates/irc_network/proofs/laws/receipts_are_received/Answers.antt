use Rattle.irc_network.proofs.Received.{receipts_are_received}
use Rattle.irc_network.proofs.laws.receipts_are_received.Goals as goal

pub returns : goal.returns
returns c = receipts_are_received
