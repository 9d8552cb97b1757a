use Rattle.irc_effects.specs.Lemmas.AlikeLaw.{alike_stay_alike}
use Rattle.irc_effects.proofs.invitation_laws.alike_stay_alike.Goals as goal

pub returns : goal.returns
returns c = alike_stay_alike
