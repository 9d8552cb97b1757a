use Rattle.irc_documents.proofs.ComputedRuns.{wrong_ones_differ}
use Rattle.irc_documents.proofs.laws.wrong_ones_differ.Goals as goal

pub returns : goal.returns
returns c = wrong_ones_differ
