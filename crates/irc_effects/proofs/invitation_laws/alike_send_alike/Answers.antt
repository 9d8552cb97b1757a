use Rattle.irc_effects.specs.Lemmas.SendingAlike.{alike_send_alike}
use Rattle.irc_effects.proofs.invitation_laws.alike_send_alike.Goals as goal

pub returns : goal.returns
returns c = alike_send_alike
