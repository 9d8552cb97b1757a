use Rattle.irc_relay.specs.Lemmas.DeliveryRuns.{front_of_told}
use Rattle.irc_relay.proofs.laws_of_relays.shown_is_front.Goals as goal

pub returns : goal.returns
returns g c = front_of_told
