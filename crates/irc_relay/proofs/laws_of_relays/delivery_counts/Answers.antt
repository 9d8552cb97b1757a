use Rattle.irc_relay.specs.Relay.{streams_from}
use Rattle.irc_relay.specs.Lemmas.StreamsFlow.{covers_flows}
use Rattle.irc_relay.specs.Lemmas.LinesCounted.{delivery_counts}
use Rattle.irc_relay.proofs.laws_of_relays.delivery_counts.Goals as goal

pub returns : goal.returns
returns g c = λ m links source p t line back old new servers forest covers.
    delivery_counts m links (streams_from links source) p t line back old new servers
    (covers_flows links source forest covers)
