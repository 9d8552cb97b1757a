use Rattle.irc_relay.specs.Relay.{streams_from}
use Rattle.irc_relay.specs.Lemmas.StreamsFlow.{covers_flows}
use Rattle.irc_relay.specs.Lemmas.ReturnedLines.{delivery_comes}
use Rattle.irc_relay.proofs.laws_of_relays.delivery_comes_on.Goals as goal

pub returns : goal.returns
returns g c = λ m links source p t line back old new forest covers. delivery_comes m links
    (streams_from links source) p t line back old new (covers_flows links source forest covers)
