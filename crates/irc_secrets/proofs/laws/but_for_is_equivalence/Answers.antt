use Rattle.irc_secrets.proofs.StayAlike.{but_for_is_equivalence}
use Rattle.irc_secrets.proofs.laws.but_for_is_equivalence.Goals as goal

pub returns : goal.returns
returns c = but_for_is_equivalence
