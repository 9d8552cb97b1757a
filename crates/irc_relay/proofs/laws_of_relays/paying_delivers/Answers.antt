use Rattle.irc_relay.specs.Lemmas.ReturnedLines.{paying_delivers}
use Rattle.irc_relay.proofs.laws_of_relays.paying_delivers.Goals as goal

pub returns : goal.returns
returns g c = paying_delivers
