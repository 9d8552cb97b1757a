use Rattle.irc_documents.specs.Lemmas.NetworksRun.{uncrossed_is_as_made}
use Rattle.irc_documents.proofs.laws.uncrossed_is_as_made.Goals as goal

pub returns : goal.returns
returns g c = uncrossed_is_as_made g.Doc.Edited.editing
