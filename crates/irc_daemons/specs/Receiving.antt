-- What clients of a network have received, and what was written to them by engines.
use Rattle.std.specs.Prelude.{◌≡◌, ℕ, zero, suc, ◌++◌, Bool, false, is_some, List}
use Rattle.std.specs.List.{flat_map, slice_get}
use Rattle.irc_network.specs.Network.{Network, received_by}
use Rattle.irc_network.specs.ByteNetwork.{ByteNetwork}
use Rattle.irc_daemons.specs.Daemons.{Daemons, connection_at, unsent}

-- whether a client has come
abbrev pub has_come : Network → ℕ → Bool
has_come net zero = false
has_come net (suc earlier) = is_some (slice_get net.received earlier)

-- what a client of a network has received, its lines joined
abbrev pub bytes_received : Network → ℕ → List ℕ
bytes_received net client = flat_map (λ text. text) (received_by net client)

-- What was written to a client, with what the outbox of its connection holds, is what it has
-- received in the network.
abbrev pub IsReceived : {W : Type 0} → Daemons W → ByteNetwork → ℕ → ℕ → ℕ → Type 0
IsReceived daemons net place client conn =
    bytes_received net.network client
    ≡ daemons.written client ++ unsent (connection_at daemons place conn)
