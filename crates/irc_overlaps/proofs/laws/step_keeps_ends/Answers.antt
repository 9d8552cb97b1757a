use Rattle.irc_overlaps.proofs.LayersEnds.{step_keeps_ends}
use Rattle.irc_overlaps.proofs.laws.step_keeps_ends.Goals as goal

pub returns : goal.returns
returns c = step_keeps_ends
