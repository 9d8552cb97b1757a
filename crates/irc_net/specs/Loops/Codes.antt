-- How a network is stored with whether memory ran out for it.
use Rattle.std.specs.Prelude.{Bool, refl}
use Rattle.std.specs.Coded.{Coded, code_by, coded×, coded_bool}
use Rattle.irc_net.specs.Calls.{NetView}
use Rattle.irc_network.specs.ByteNetwork.{ByteNetwork}
use Rattle.irc_network.specs.Loops.Codes.{byte_network_code}

abbrev pub net_code : Coded NetView
net_code =
    code_by (Bool × ByteNetwork) (coded× coded_bool byte_network_code) (λ n. (n.failed, n.network))
    (λ p. record { failed = p.0; network = p.1 }) (λ _. refl)
