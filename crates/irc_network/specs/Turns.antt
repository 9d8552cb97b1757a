-- Bytes that come in turn: each time through the next LF, in the first direction in which a byte is
-- on its way.
--
-- from a.net to b.net the LF of a line is on its way that has come already, from b.net to c.net a
-- line
--   a turn    the LF comes to b.net, and completes nothing
--   a turn    the line comes to c.net, with its CR LF
--   at rest   nothing is on its way
use Rattle.std.specs.Prelude.{◌≡◌, ℕ, ◌+◌, ◌<◌, Option, Some, None, length}
use Rattle.std.specs.Option.{option_map, option_map_or}
use Rattle.irc_pipes.specs.Pipes.{Direction, first_direction, through_line_feed, pipe_at}
use Rattle.irc_network.specs.Network.{Progress}
use Rattle.irc_network.specs.ByteNetwork.{ByteNetwork, bytes_come, completed_in}

-- how many bytes come in a direction by a turn
abbrev pub bytes_in_turn : ByteNetwork → Direction → ℕ
bytes_in_turn net d = through_line_feed (pipe_at net.pipes d.from d.to).bytes

abbrev pub turn_in : Progress ByteNetwork → Direction → Progress ByteNetwork
turn_in progress d = bytes_come d.from d.to (bytes_in_turn progress.state d) progress

-- none where no byte is on its way
abbrev pub turn_taken : Progress ByteNetwork → Option (Progress ByteNetwork)
turn_taken progress = option_map (turn_in progress) (first_direction progress.state.pipes)

-- how many lines the turn completes
abbrev pub lines_in : ByteNetwork → Direction → ℕ
lines_in net d = length (completed_in net d.from d.to (bytes_in_turn net d))

abbrev pub lines_in_turn : ByteNetwork → ℕ
lines_in_turn net = option_map_or (lines_in net) (first_direction net.pipes) 0

-- a turn that completes so many lines, or none
abbrev pub TurnsBy : Option ℕ → Progress ByteNetwork → Progress ByteNetwork → Type 0
TurnsBy None old new = (turn_taken old ≡ None) × (new ≡ old)
TurnsBy (Some lines) old new = (turn_taken old ≡ Some new) × (lines ≡ lines_in_turn old.state)

-- turn by turn, by which so many lines are completed in all
pub data TurnsGo : ℕ → Progress ByteNetwork → Progress ByteNetwork → Type 0 where
  none_yet : {progress : Progress ByteNetwork} → TurnsGo 0 progress progress
  turn_first : {all count : ℕ} {progress between last : Progress ByteNetwork}
      → turn_taken progress ≡ Some between → all ≡ lines_in_turn progress.state + count
      → TurnsGo count between last → TurnsGo all progress last

-- turns that complete none, and behind them one that completes so many
pub record GoesToLine (lines : ℕ) (old new : Progress ByteNetwork) : Type 0 where
  pub between : Progress ByteNetwork
  pub goes : TurnsGo 0 old between
  pub turn : turn_taken between ≡ Some new
  pub lines_are : lines ≡ lines_in_turn between.state
  pub some : 0 < lines

-- until one completes a line, or no byte is on its way
abbrev pub ComesToLine : Option ℕ → Progress ByteNetwork → Progress ByteNetwork → Type 0
ComesToLine None old new = TurnsGo 0 old new × (turn_taken new ≡ None)
ComesToLine (Some lines) old new = GoesToLine lines old new
