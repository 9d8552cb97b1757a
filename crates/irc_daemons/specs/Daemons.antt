-- Engines whose wires are joined by links: what one has written by a link's end is in transit until
-- the engine at the other end has read it, in order.
--
-- a.net (place 0) and b.net (place 1) are linked: at a.net the link is connection 7, at b.net
-- connection 4; al is client 1, connection 9 at a.net.
--   ends 0 1     7, and ends 1 0 is 4
--   ways 0 1     true, from when the first of the two is told of the link until the first of them
--                is told that it is lost
--   seats 0 1    9
--   transit 0 1  what the wire took of a.net by its connection 7, and b.net has not read by its
--                connection 4
use Rattle.std.specs.Prelude.{◌≡◌, ℕ, ◌++◌, Bool, Option, Some, None, is_some, List, [], unwrap_or}
use Rattle.std.specs.List.{slice_get}
use Rattle.std.specs.Option.{option_and_then}
use Rattle.irc_line.specs.Lines.{nothing_begun}
use Rattle.irc_pipes.specs.Pipes.{LinkPipe}
use Rattle.irc_engine.specs.declared.connection_table.Connection.{Connection}
use Rattle.irc_engine.specs.declared.kind.ConnectionKind.TheVariants as kinds
use Rattle.irc_engine.specs.Carrying.{open_kind_at}
use Rattle.irc_engine.specs.Hearing.{begun_at}
use Rattle.irc_engine.specs.EngineView.{EngineView}

-- The engines, in the order of their servers' names; the connection by which the server at one
-- place has its link with the server at another, once it was told of it; whether two are linked,
-- from when the first end of the link is told of it until the first is told that it is lost; the
-- connection by which a server has a client, or had it until the number was another's; how many
-- clients have come; the bytes in transit from one place to another; and what was written to each
-- client. Clients are numbered from 1, in the order in which they came.
pub record Daemons (W : Type 0) : Type 0 where
  pub engines : List (EngineView W)
  pub ends : ℕ → ℕ → Option ℕ
  pub ways : ℕ → ℕ → Bool
  pub seats : ℕ → ℕ → Option ℕ
  pub came : ℕ
  pub transit : ℕ → ℕ → List ℕ
  pub written : ℕ → List ℕ

-- ---- connections, by places

abbrev pub connection_in : {W : Type 0} → Option (EngineView W) → ℕ → Option Connection
connection_in None conn = None
connection_in (Some engine) conn = engine.now.connections conn

-- a connection of the server at a place
abbrev pub connection_at : {W : Type 0} → Daemons W → ℕ → ℕ → Option Connection
connection_at daemons place conn = connection_in (slice_get daemons.engines place) conn

-- the end of the link from one place to another, at the first
abbrev pub end_at : {W : Type 0} → Daemons W → ℕ → ℕ → Option Connection
end_at daemons from to = option_and_then (connection_at daemons from) (daemons.ends from to)

-- what is still to be written
abbrev pub unsent : Option Connection → List ℕ
unsent None = []
unsent (Some connection) = connection.outbox.bytes

-- ---- what is on its way

-- What the near engine has put out by a link and the far one has not read: first what is in
-- transit, and behind it the outbox. What has come of a line is in the framer of the far end.
abbrev pub pipe_between : {W : Type 0} → Daemons W → ℕ → ℕ → LinkPipe
pipe_between daemons from to = record {
  begun = unwrap_or (begun_at (end_at daemons to from)) nothing_begun;
  bytes = daemons.transit from to ++ unsent (end_at daemons from to);
}

-- ---- joined by links

-- each end of a link is there, is one, and is open
abbrev pub AreLinksOpen : {W : Type 0} → Daemons W → Type 0
AreLinksOpen daemons = (x y conn : ℕ) → daemons.ends x y ≡ Some conn
    → open_kind_at (connection_at daemons x conn) ≡ Some kinds.Link

-- Two are linked both ways. Each end of a link is there, is a link, and is open. At one place no
-- two links have one number, nor has a link that of a client.
pub record AreJoined {W : Type 0} (daemons : Daemons W) : Type 0 where
  pub both_ways : (x y : ℕ) → daemons.ways x y ≡ daemons.ways y x
  pub not_itself : (x : ℕ) → daemons.ends x x ≡ None
  pub are_open : AreLinksOpen daemons
  pub apart : (x y z conn : ℕ) → daemons.ends x y ≡ Some conn → daemons.ends x z ≡ Some conn → y ≡ z
  pub no_client : (x y client conn : ℕ) → daemons.ends x y ≡ Some conn
      → daemons.seats x client ≡ Some conn → ⊥
  pub one_seat : (x client other conn : ℕ) → daemons.seats x client ≡ Some conn
      → daemons.seats x other ≡ Some conn → client ≡ other

-- The server at a place was told of each of its links, and that each other one is lost.
abbrev pub IsToldOfLinks : {W : Type 0} → Daemons W → ℕ → Type 0
IsToldOfLinks daemons place =
    (other : ℕ) → daemons.ways place other ≡ is_some (daemons.ends place other)
