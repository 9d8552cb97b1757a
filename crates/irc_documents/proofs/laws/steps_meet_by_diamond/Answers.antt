use Rattle.irc_documents.specs.Lemmas.NetworksRun.{steps_meet_by_diamond}
use Rattle.irc_documents.proofs.laws.steps_meet_by_diamond.Goals as goal

pub returns : goal.returns
returns g c = steps_meet_by_diamond g.Doc.Edited.editing
