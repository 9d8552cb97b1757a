use Rattle.irc_effects.specs.Lemmas.WellFormedLaw.{no_room_is_well_formed}
use Rattle.irc_effects.proofs.laws.no_room_is_well_formed.Goals as goal

pub returns : goal.returns
returns c = no_room_is_well_formed
