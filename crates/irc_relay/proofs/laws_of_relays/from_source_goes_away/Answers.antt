use Rattle.irc_relay.specs.Lemmas.StreamsFlow.{from_source_goes_away}
use Rattle.irc_relay.proofs.laws_of_relays.from_source_goes_away.Goals as goal

pub returns : goal.returns
returns g c = from_source_goes_away
