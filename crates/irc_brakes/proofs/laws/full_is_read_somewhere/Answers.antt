use Rattle.irc_brakes.proofs.FindingReaders.{full_is_read_somewhere}
use Rattle.irc_brakes.proofs.laws.full_is_read_somewhere.Goals as goal

pub returns : goal.returns
returns c = full_is_read_somewhere c.waits_end.ensures
