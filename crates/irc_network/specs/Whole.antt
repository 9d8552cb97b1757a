-- What always holds of a network whose links carry bytes: what is on its way along a link ends
-- lines, one behind another, and comes along a way that is there.
use Rattle.std.specs.Prelude.{◌≡◌, ℕ, suc, ◌≤◌, ◌==◌, Bool, true, false, Option, None, Some}
use Rattle.std.specs.Prelude.{is_some, List, [], ◌∷◌, drop, length, replicate}
use Rattle.std.specs.FinMap.{empty, get}
use Rattle.std.specs.List.{AllByRecursion}
use Rattle.std.specs.Option.{option_and_then}
use Rattle.irc_line.specs.Bytes.{line_feed}
use Rattle.irc_line.specs.Lines.{HasTaken, IsLine, begun_behind, nothing_begun, stream_for}
use Rattle.irc_network.specs.Network.{Progress, Network, Node, delivered, given, is_at_rest}
use Rattle.irc_network.specs.Network.{next_in_turn, node_at, waiting}
use Rattle.irc_world.specs.Stepping.{Item}
use Rattle.irc_pipes.specs.Pipes.{AreLean, LinkPipe, advanced, first_direction, lines_by}
use Rattle.irc_pipes.specs.Pipes.{lines_to_come}
use Rattle.irc_pipes.specs.Pipes.{through_line_feed, pipe_at}
use Rattle.irc_network.specs.ByteNetwork.{ByteNetwork, HasRows, bytes_come}
use Rattle.irc_network.specs.ByteNetwork.{completed_in, progress_in_lines, net_in_lines}
use Rattle.irc_network.specs.ByteNetwork.{is_byte_rest, item_given, waiting_at}
use Rattle.irc_network.specs.Turns.{ComesToLine, lines_in_turn, turn_taken}

-- ---- one direction of a link

-- no byte, or an LF is the last
abbrev pub ends_in_feed : List ℕ → Bool
ends_in_feed [] = true
ends_in_feed (byte ∷ []) = byte == line_feed
ends_in_feed (byte ∷ next ∷ bytes) = ends_in_feed (next ∷ bytes)

-- Some stream led to the framer at the far end, and all that is on its way ends lines. From
-- wherever it comes, what is through the next LF completes one line at most.
pub record IsWhole (pipe : LinkPipe) : Type 0 where
  pub real : HasTaken pipe.begun (stream_for pipe.begun)
  pub ends : begun_behind pipe.begun pipe.bytes ≡ nothing_begun
  pub feed : ends_in_feed pipe.bytes ≡ true
  pub singly : (come : ℕ)
      → length (lines_by (through_line_feed (drop come pipe.bytes)) (advanced come pipe)) ≤ 1

-- ---- all of them

abbrev pub has_way : Network → ℕ → ℕ → Bool
has_way net from to =
    is_some (option_and_then (λ (node : Node). get node.queues to) (node_at net from))

-- No line waits in the network. Each server has its row of pipes, and no pipe is kept along which
-- nothing is on its way.
pub record IsTidy (net : ByteNetwork) : Type 0 where
  pub quiet : (from to : ℕ) → waiting_at net.network from to ≡ []
  pub rows : HasRows net
  pub lean : AreLean net.pipes

pub record IsWholeNet (net : ByteNetwork) : Type 0 where
  pub tidy : IsTidy net
  pub whole : (from to : ℕ) → IsWhole (pipe_at net.pipes from to)
  pub ways : (from to : ℕ) → has_way net.network from to ≡ false
      → lines_to_come (pipe_at net.pipes from to) ≡ []

-- each line that waits on a way is one
abbrev pub AreLinesWaiting : Network → Type 0
AreLinesWaiting net = (place to : ℕ) (node : Node) → node_at net place ≡ Some node
    → AllByRecursion IsLine (waiting node to)

-- ---- a new one

-- It is one whose links carry lines, and at rest.
pub record IsAsNew (net : ByteNetwork) : Type 0 where
  pub whole : IsWholeNet net
  pub as_lines : net_in_lines net ≡ net.network
  pub at_rest : is_byte_rest net ≡ true

abbrev pub no_pipes : Network → ByteNetwork
no_pipes net = record { network = net; pipes = replicate (length net.nodes) empty }

abbrev pub NewIsWhole : Type 0
NewIsWhole = (net : Network) → AllByRecursion (λ (node : Node). node.queues ≡ empty) net.nodes
    → IsAsNew (no_pipes net)

-- ---- an item that is given at rest

-- It does what it does where links carry lines.
pub record IsGivenAsLines (old : ByteNetwork) (item : Item) : Type 0 where
  pub as_lines : progress_in_lines (item_given item old) ≡ given item (net_in_lines old)
  pub whole : IsWholeNet (item_given item old).state

abbrev pub GivenAsLines : Type 0
GivenAsLines = (old : ByteNetwork) (item : Item) → IsWholeNet old → is_byte_rest old ≡ true
    → AreLinesWaiting (given item (net_in_lines old)).state
    → IsGivenAsLines old item

-- ---- bytes that come

-- so many lines are delivered from one server to another
pub data Delivers (from to : ℕ) : ℕ → Progress Network → Progress Network → Type 0 where
  no_more : {progress : Progress Network} → Delivers from to 0 progress progress
  one_first : {count : ℕ} {progress between last : Progress Network}
      → delivered from to progress ≡ Some between → Delivers from to count between last
      → Delivers from to (suc count) progress last

-- They deliver the lines that they complete, where links carry lines.
pub record ComeAsLines (from to count : ℕ) (old : Progress ByteNetwork) : Type 0 where
  pub last : Progress Network
  pub delivers : Delivers from to (length (completed_in old.state from to count))
      (progress_in_lines old) last
  pub as_lines : AreLinesWaiting last.state
      → progress_in_lines (bytes_come from to count old) ≡ last
  pub whole : AreLinesWaiting last.state → IsWholeNet (bytes_come from to count old).state

abbrev pub BytesComeAsLines : Type 0
BytesComeAsLines = (from to count : ℕ) (old : Progress ByteNetwork) → IsWholeNet old.state
    → ComeAsLines from to count old

-- ---- a turn

-- By a turn no line is completed, or one, which is the next in turn where links carry lines.
pub data TurnsAsLines (old new : Progress ByteNetwork) : Type 0 where
  no_line : lines_in_turn old.state ≡ 0 → progress_in_lines new ≡ progress_in_lines old
      → IsWholeNet new.state → TurnsAsLines old new
  one_line : (last : Progress Network) → lines_in_turn old.state ≡ 1
      → next_in_turn (progress_in_lines old)
      ≡ Some last → (AreLinesWaiting last.state → progress_in_lines new ≡ last)
      → (AreLinesWaiting last.state → IsWholeNet new.state) → TurnsAsLines old new

abbrev pub TurnAsLines : Type 0
TurnAsLines =
    (old new : Progress ByteNetwork) → IsWholeNet old.state
    → AreLinesWaiting (net_in_lines old.state)
    → turn_taken old ≡ Some new → TurnsAsLines old new

-- a line comes in the end, or there is none
pub record ComesToSome (old : Progress ByteNetwork) : Type 0 where
  pub lines : Option ℕ
  pub new : Progress ByteNetwork
  pub comes : ComesToLine lines old new

abbrev pub EachComesToLine : Type 0
EachComesToLine = (old : Progress ByteNetwork) → IsTidy old.state → ComesToSome old

-- ---- at rest

-- Where nothing is on its way, no line is where links carry lines, and no turn is taken.
pub record IsRestAsLines (net : ByteNetwork) : Type 0 where
  pub as_lines : net_in_lines net ≡ net.network
  pub at_rest : is_at_rest (net_in_lines net) ≡ true
  pub no_byte : first_direction net.pipes ≡ None

abbrev pub RestAsLines : Type 0
RestAsLines = (net : ByteNetwork) → IsWholeNet net → is_byte_rest net ≡ true → IsRestAsLines net

-- Where no byte is on its way, no part of a line has come either.
abbrev pub NoByteRests : Type 0
NoByteRests = (net : ByteNetwork) → IsWholeNet net → first_direction net.pipes ≡ None
    → is_byte_rest net ≡ true
