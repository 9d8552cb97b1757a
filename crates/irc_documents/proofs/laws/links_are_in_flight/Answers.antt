use Rattle.irc_documents.specs.Lemmas.NetworksRun.{links_are_in_flight}
use Rattle.irc_documents.proofs.laws.links_are_in_flight.Goals as goal

pub returns : goal.returns
returns g c = links_are_in_flight g.Doc.Edited.editing
