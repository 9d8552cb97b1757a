use Rattle.irc_effects.specs.Lemmas.WellFormedLaw.{after_is_well_formed}
use Rattle.irc_effects.proofs.laws.after_is_well_formed.Goals as goal

pub returns : goal.returns
returns c = after_is_well_formed
