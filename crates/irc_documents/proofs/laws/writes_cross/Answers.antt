use Rattle.irc_documents.proofs.ComputedRuns.{writes_cross}
use Rattle.irc_documents.proofs.laws.writes_cross.Goals as goal

pub returns : goal.returns
returns c = writes_cross
