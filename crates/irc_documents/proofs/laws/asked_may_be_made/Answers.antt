use Rattle.irc_documents.specs.Lemmas.NetworksRun.{asked_may_be_made}
use Rattle.irc_documents.proofs.laws.asked_may_be_made.Goals as goal

pub returns : goal.returns
returns g c = asked_may_be_made g.Doc.Edited.editing
