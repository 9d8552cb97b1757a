use Rattle.irc_overlaps.proofs.LayersEnds.{runs_have_their_ends}
use Rattle.irc_overlaps.proofs.laws.runs_have_their_ends.Goals as goal

pub returns : goal.returns
returns c = runs_have_their_ends
