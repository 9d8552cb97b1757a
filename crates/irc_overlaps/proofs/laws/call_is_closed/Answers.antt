use Rattle.irc_overlaps.proofs.ComputedRun.{call_is_closed}
use Rattle.irc_overlaps.proofs.laws.call_is_closed.Goals as goal

pub returns : goal.returns
returns c = call_is_closed
