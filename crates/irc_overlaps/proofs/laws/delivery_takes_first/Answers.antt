use Rattle.irc_overlaps.proofs.OneServer.{delivery_takes_first}
use Rattle.irc_overlaps.proofs.laws.delivery_takes_first.Goals as goal

pub returns : goal.returns
returns c = delivery_takes_first
