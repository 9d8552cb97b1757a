use Rattle.irc_effects.specs.Lemmas.AlikeLaw.{home_is_alike}
use Rattle.irc_effects.proofs.invitation_laws.home_is_alike.Goals as goal

pub returns : goal.returns
returns c = home_is_alike
