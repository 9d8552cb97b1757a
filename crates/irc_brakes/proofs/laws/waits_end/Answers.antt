use Rattle.irc_brakes.proofs.FindingReaders.{waits_end}
use Rattle.irc_brakes.proofs.laws.waits_end.Goals as goal

pub returns : goal.returns
returns c = waits_end c.waits_are_short.ensures
