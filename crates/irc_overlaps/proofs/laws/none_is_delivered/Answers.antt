use Rattle.irc_overlaps.proofs.OneServer.{none_is_delivered}
use Rattle.irc_overlaps.proofs.laws.none_is_delivered.Goals as goal

pub returns : goal.returns
returns c = none_is_delivered
