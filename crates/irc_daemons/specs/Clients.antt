-- Who is a client of a server still, once something has happened to it: the half of
-- `WhoIsConnected` that runs of engines ask for.
use Rattle.std.specs.Prelude.{◌≡◌, ℕ, true, false, ◌||◌}
use Rattle.irc_stage.specs.View.{View}
use Rattle.irc_server.specs.Served.{ReadEvent, served}
use Rattle.irc_server.specs.Connected.{client_comes, client_goes, has_client, is_client_ended}
use Rattle.irc_network.specs.Node.{serves_read_event}

-- A client was one before, or connects by it; its end was not put out, and it is not gone.
pub record IsStillClient (view : View) (read_event : ReadEvent) (conn : ℕ) : Type 0 where
  pub was : (has_client view conn || client_comes conn read_event) ≡ true
  pub not_ended : is_client_ended conn (served view read_event).out ≡ false
  pub not_gone : client_goes conn read_event ≡ false

-- Whatever is served and not refused, each client is so.
abbrev pub ClientsStay : Type 0
ClientsStay =
    (view : View) (read_event : ReadEvent) (conn : ℕ) → serves_read_event view read_event ≡ true
    → has_client (served view read_event).state conn ≡ true → IsStillClient view read_event conn
