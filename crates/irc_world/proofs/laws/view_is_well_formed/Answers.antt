use Rattle.irc_world.proofs.ClientsPlaces.{view_is_well_formed}
use Rattle.irc_world.proofs.laws.view_is_well_formed.Goals as goal

pub returns : goal.returns
returns c = view_is_well_formed c.home_is_well_formed.ensures
