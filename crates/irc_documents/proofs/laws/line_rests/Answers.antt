use Rattle.irc_documents.proofs.ComputedRuns.{line_rests}
use Rattle.irc_documents.proofs.laws.line_rests.Goals as goal

pub returns : goal.returns
returns c = line_rests
