use Rattle.irc_effects.proofs.EndsAndStarts.{invitation_used_up}
use Rattle.irc_effects.proofs.laws.invitation_used_up.Goals as goal

pub returns : goal.returns
returns c = invitation_used_up
