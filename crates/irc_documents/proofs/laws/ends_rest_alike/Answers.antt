use Rattle.irc_documents.specs.Lemmas.NetworksRun.{ends_rest_alike}
use Rattle.irc_documents.proofs.laws.ends_rest_alike.Goals as goal

pub returns : goal.returns
returns g c = ends_rest_alike g.Doc.Edited.editing
