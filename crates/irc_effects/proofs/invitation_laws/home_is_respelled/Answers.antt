use Rattle.irc_effects.specs.Lemmas.RespelledRooms.{home_is_respelled, alike_are_respelled_alike}
use Rattle.irc_effects.proofs.invitation_laws.home_is_respelled.Goals as goal

pub returns-clause-home : goal.returns-clause-home
returns-clause-home c = home_is_respelled

pub returns-clause-alike : goal.returns-clause-alike
returns-clause-alike c = alike_are_respelled_alike
