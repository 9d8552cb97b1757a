-- Engines at wires that are joined by links, as a network whose links carry bytes.
use Rattle.std.specs.Prelude.{◌≡◌, ℕ, ⊤, Option, Some, None}
use Rattle.std.specs.List.{slice_get}
use Rattle.irc_line.specs.Lines.{Begun, HasTaken, stream_for}
use Rattle.irc_network.specs.Network.{Node, node_at}
use Rattle.irc_pipes.specs.Pipes.{pipe_at}
use Rattle.irc_network.specs.ByteNetwork.{ByteNetwork}
use Rattle.irc_network.specs.Whole.{IsTidy, has_way}
use Rattle.irc_engine.specs.Hearing.{begun_at}
use Rattle.irc_engine.specs.Running.{IsInOrder, Moment}
use Rattle.irc_engine.specs.EngineView.{EngineView}
use Rattle.irc_daemons.specs.Alike.{AreServersAlikeIf, Numbers}
use Rattle.irc_daemons.specs.Daemons.{Daemons, pipe_between}

-- the numbers at a place
abbrev pub numbers_at : {W : Type 0} → Daemons W → ℕ → Numbers
numbers_at daemons place = record { link = daemons.ends place; client = daemons.seats place }

-- Each framer is one to which some stream led. A framer's laws speak of no other.
abbrev pub AreFramersReal : {W : Type 0} → Moment W → Type 0
AreFramersReal now = (conn : ℕ) (begun : Begun) → begun_at (now.connections conn) ≡ Some begun
    → HasTaken begun (stream_for begun)

-- an engine between two turns, and a server of a network
pub record IsServerOf {W : Type 0} (numbers : Numbers) (engine : EngineView W)
    (node : Node) : Type 0 where
  pub in_order : IsInOrder engine.now
  pub framers : AreFramersReal engine.now
  pub servers : AreServersAlikeIf numbers engine.now.server node.server

-- at one place
abbrev pub IsServerIf : {W : Type 0} → Numbers → Option (EngineView W) → Option Node → Type 0
IsServerIf numbers None None = ⊤
IsServerIf numbers (Some engine) (Some node) = IsServerOf numbers engine node
IsServerIf numbers None (Some node) = ⊥
IsServerIf numbers (Some engine) None = ⊥

-- Servers are the same but for numbers; and on each way is what the near engine has put out by that
-- link and the far one has not read.
pub record IsAsBytes {W : Type 0} (daemons : Daemons W) (net : ByteNetwork) : Type 0 where
  pub servers : (place : ℕ) → IsServerIf (numbers_at daemons place)
      (slice_get daemons.engines place) (node_at net.network place)
  pub ways : (from to : ℕ) → has_way net.network from to ≡ daemons.ways from to
  pub pipes : (from to : ℕ) → pipe_at net.pipes from to ≡ pipe_between daemons from to
  pub tidy : IsTidy net
