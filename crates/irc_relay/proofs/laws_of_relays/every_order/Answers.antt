use Rattle.irc_relay.specs.Relay.{streams_from}
use Rattle.irc_relay.specs.Lemmas.StreamsFlow.{covers_flows}
use Rattle.irc_relay.specs.Lemmas.DeliveryRuns.{run_on_the_way}
use Rattle.irc_relay.proofs.laws_of_relays.every_order.Goals as goal

pub returns : goal.returns
returns g c = λ m links source start now n forest covers. run_on_the_way m links
    (streams_from links source) start n now (covers_flows links source forest covers)
