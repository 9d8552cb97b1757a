use Rattle.irc_effects.proofs.ExamplesProved.{secret_stays_secret}
use Rattle.irc_effects.proofs.examples.secret_stays_secret.Goals as goal

pub returns : goal.returns
returns c = secret_stays_secret
