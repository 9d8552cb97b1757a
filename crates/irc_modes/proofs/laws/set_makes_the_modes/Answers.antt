use Rattle.irc_modes.specs.Lemmas.SetAgain.{set_makes_the_modes}
use Rattle.irc_modes.proofs.laws.set_makes_the_modes.Goals as goal

pub returns : goal.returns
returns c = set_makes_the_modes
