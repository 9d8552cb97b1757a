use Rattle.irc_net.proofs.AnswersReceived.{answers_are_received}
use Rattle.irc_net.proofs.laws.answers_are_received.Goals as goal

pub returns : goal.returns
returns c = answers_are_received c.receipts_are_received.ensures
