use Rattle.irc_script.proofs.Settling.{settles_to_rest}
use Rattle.irc_script.proofs.laws.settling_leaves_rest.Goals as goal

pub returns : goal.returns
returns c = settles_to_rest
