-- What comes along links, as the code has it.
use Rattle.std.specs.Prelude.{◌≡◌, ℕ, List, length}
use Rattle.arrayvec.specs.ArrayVec.{ArrayVec}
use Rattle.irc_line.specs.Framed.{bytes_of}
use Rattle.irc_forest.specs.declared.places.EndPlaces.{EndPlaces}
use Rattle.irc_network.specs.declared.call_output.CallOutput.{CallOutput}
use Rattle.irc_network.specs.Calls.{progress_at}
pub use Rattle.irc_network.specs.Loops.Progress.{progress_of}
use Rattle.irc_network.specs.Loops.Progress.{all_heard_out}
use Rattle.irc_pipes.specs.Pipes.{pipe_at}
use Rattle.irc_network.specs.Network.{Progress}
use Rattle.irc_network.specs.ByteNetwork.{ByteNetwork, bytes_come, completed_in}

-- how many bytes are on their way from the first of two servers to the other
abbrev pub bytes_between : ByteNetwork → EndPlaces → ℕ
bytes_between net ends = length (pipe_at net.pipes ends.near ends.far).bytes

-- how many lines so many bytes complete there
abbrev pub lines_between : ByteNetwork → EndPlaces → ℕ → ℕ
lines_between net ends count = length (completed_in net ends.near ends.far count)

abbrev pub come_between : EndPlaces → ℕ → Progress ByteNetwork → Progress ByteNetwork
come_between ends count progress = bytes_come ends.near ends.far count progress

-- ---- lines that have come

-- a server was asked for lines that have come from another, in turn
abbrev pub HaveHeard : ℕ → ℕ → List (ArrayVec ℕ) → ByteNetwork → CallOutput → ByteNetwork
    → CallOutput → Type 0
HaveHeard from to lines old before new after =
    progress_at new after ≡ all_heard_out from to (progress_at old before)
    (bytes_of lines)
