use Rattle.irc_effects.specs.Lemmas.HomeLaw.{home_follows}
use Rattle.irc_effects.proofs.invitation_laws.home_follows.Goals as goal

pub returns : goal.returns
returns c = home_follows
