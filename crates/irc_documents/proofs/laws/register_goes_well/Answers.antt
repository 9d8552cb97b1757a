use Rattle.irc_documents.proofs.ComputedRuns.{register_goes_well}
use Rattle.irc_documents.proofs.laws.register_goes_well.Goals as goal

pub returns : goal.returns
returns c = register_goes_well c.the_way_is_a_walk.ensures
