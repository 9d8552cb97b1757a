use Rattle.irc_documents.specs.Lemmas.NetworksRun.{step_keeps_sound}
use Rattle.irc_documents.proofs.laws.step_keeps_sound.Goals as goal

pub returns : goal.returns
returns g c = step_keeps_sound g.Doc.Edited.editing
