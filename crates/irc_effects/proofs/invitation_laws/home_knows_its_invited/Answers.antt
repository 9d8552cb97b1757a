use Rattle.irc_effects.specs.Lemmas.SendingAlike.{home_knows_its_invited}
use Rattle.irc_effects.proofs.invitation_laws.home_knows_its_invited.Goals as goal

pub returns : goal.returns
returns c = home_knows_its_invited
