use Rattle.irc_documents.specs.Lemmas.NetworksRun.{parts_rest_alike}
use Rattle.irc_documents.proofs.laws.parts_rest_alike.Goals as goal

pub returns : goal.returns
returns g c = parts_rest_alike g.Doc.Edited.editing c.the_way_is_a_walk.ensures
