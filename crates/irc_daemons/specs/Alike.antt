-- A server of an engine and a server of a network that are alike but for numbers (`irc_numbers`):
-- what they put out, in bytes, and what it is to serve alike.
--
-- a.net (place 0) has the link 7 to b.net (place 1) and the link 5 to c.net (place 2), and al as
-- connection 9, client 1 of the network:
--   al says hi  the engine's server puts the line out on 5 and then on 7, the network's on 1 and
--               then on 2: the same on each link, in another order
use Rattle.std.specs.Prelude.{◌≡◌, ℕ, ⊤, false, nat_eq, Option, Some, None, List, [], if◌then◌else◌}
use Rattle.std.specs.List.{flat_map}
use Rattle.irc_line.specs.Reading.{read_of}
use Rattle.irc_batch.specs.Batches.{Sent, line_on, line_to}
use Rattle.irc_stage.specs.Ways.{AreEnds}
use Rattle.irc_stage.specs.View.{View}
use Rattle.irc_server.specs.Served.{ReadEvent, link_says}
use Rattle.irc_network.specs.Node.{reply}
use Rattle.irc_engine.specs.Carrying.{answers, is_closed_by}
pub use Rattle.irc_numbers.specs.Alike.{AreAlike, AreApart, AreRowsAlike, IsAmong, Numbers}
pub use Rattle.irc_numbers.specs.ServedAlike.{happens_at, renumbered}

-- An engine's server is as one of a network: they are alike but for numbers, and each server that
-- it knows is behind a link that counts.
pub record AreServersAlike (numbers : Numbers) (own other : View) : Type 0 where
  pub alike : AreAlike numbers own other
  pub ends_count : AreEnds own.ends own.routes

-- neither is there any more once memory ran out
abbrev pub AreServersAlikeIf : Numbers → Option View → Option View → Type 0
AreServersAlikeIf numbers None None = ⊤
AreServersAlikeIf numbers (Some own) (Some other) = AreServersAlike numbers own other
AreServersAlikeIf numbers None (Some other) = ⊥
AreServersAlikeIf numbers (Some own) None = ⊥

-- ---- what they put out

-- the bytes on a link among what is put out
abbrev pub bytes_on : ℕ → Sent → List ℕ
bytes_on link (line_on number text) = if nat_eq number link then text else []
bytes_on link other = []

abbrev pub link_bytes : ℕ → List Sent → List ℕ
link_bytes link outs = flat_map (bytes_on link) outs

-- the bytes to a client
abbrev pub bytes_to : ℕ → Sent → List ℕ
bytes_to client (line_to conn text) = if nat_eq conn client then text else []
bytes_to client other = []

abbrev pub client_bytes : ℕ → List Sent → List ℕ
client_bytes client outs = flat_map (bytes_to client) outs

-- on each link that stays open the same, and to each client
pub record SayAlike (numbers : Numbers) (own other : List Sent) : Type 0 where
  pub on_links : (place conn : ℕ) → numbers.link place ≡ Some conn → is_closed_by conn own ≡ false
      → answers conn own ≡ link_bytes place other
  pub to_clients : (client conn : ℕ) → numbers.client client ≡ Some conn
      → answers conn own ≡ client_bytes client other

-- ---- numbers are nothing to a server

-- of the two something is asked
pub record ServeAlike (numbers : Numbers) (own : View) (own_is : ReadEvent) (other : View)
    (other_is : ReadEvent) : Type 0 where
  pub views : AreServersAlike numbers (reply own own_is).state (reply other other_is).state
  pub say : SayAlike numbers (reply own own_is).out (reply other other_is).out

-- Upon this line of a link, servers that are alike do the same.
abbrev pub IsServedAlike : Numbers → ℕ → ℕ → List ℕ → Type 0
IsServedAlike numbers place conn line = (own other : View) → AreServersAlike numbers own other
    → ServeAlike numbers own (link_says conn (read_of line)) other (link_says place (read_of line))

-- Upon any they do.
abbrev pub LinesAreServedAlike : Type 0
LinesAreServedAlike = (numbers : Numbers) (place conn : ℕ) (line : List ℕ) → AreApart numbers
    → numbers.link place ≡ Some conn
    → IsServedAlike numbers place conn line

-- ---- whatever happens to both

-- Whatever happens to both, they do the same. Who connects, and a link that is made, have their
-- numbers already.
abbrev pub ServedAlike : Type 0
ServedAlike = (numbers : Numbers) (own other : View) (read_event : ReadEvent) (conn : ℕ)
    → AreApart numbers → AreServersAlike numbers own other
    → happens_at numbers read_event ≡ Some conn
    → ServeAlike numbers own (renumbered conn read_event) other read_event
