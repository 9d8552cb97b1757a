use Rattle.irc_items.proofs.Common.AtRest.{received_is_front}
use Rattle.irc_items.proofs.laws.received_is_front.Goals as goal

pub returns : goal.returns
returns c = received_is_front
