use Rattle.irc_effects.specs.Lemmas.HomeRooms.{home_is_well_formed}
use Rattle.irc_effects.proofs.invitation_laws.home_is_well_formed.Goals as goal

pub returns : goal.returns
returns c = home_is_well_formed
