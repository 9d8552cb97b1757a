use Rattle.irc_secrets.proofs.StillOutside.{outsider_stays_outside}
use Rattle.irc_secrets.proofs.laws.outsider_stays_outside.Goals as goal

pub returns : goal.returns
returns c = outsider_stays_outside
