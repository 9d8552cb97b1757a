use Rattle.irc_relay.specs.Relay.{streams_from}
use Rattle.irc_relay.specs.Lemmas.StreamsFlow.{covers_flows}
use Rattle.irc_relay.specs.Lemmas.Deliveries.{comes_in_turn}
use Rattle.irc_relay.proofs.laws_of_relays.coming_in_turn.Goals as goal

pub returns : goal.returns
returns g c = λ m links source net t forest covers. comes_in_turn m links
    (streams_from links source) net t (covers_flows links source forest covers)
