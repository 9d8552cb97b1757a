use Rattle.irc_effects.specs.Lemmas.SendingAlike.{alike_keep_limits}
use Rattle.irc_effects.proofs.invitation_laws.alike_keep_limits.Goals as goal

pub returns : goal.returns
returns c = alike_keep_limits
