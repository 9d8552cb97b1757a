use Rattle.irc_documents.specs.Lemmas.NetworksRun.{all_goes_well}
use Rattle.irc_documents.proofs.laws.all_goes_well.Goals as goal

pub returns : goal.returns
returns g c = all_goes_well g.Doc.Edited.editing c.the_way_is_a_walk.ensures
