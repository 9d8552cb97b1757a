use Rattle.irc_relay.specs.Lemmas.DeliveryRuns.{rest_final, rest_told}
use Rattle.irc_relay.proofs.laws_of_relays.rest_is_final.Goals as goal

pub returns : goal.returns
returns g c =
    λ m streams net u rest. (rest_final m streams net u rest, rest_told m streams net u rest)
