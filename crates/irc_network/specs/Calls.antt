-- What comes of a call of a network whose links carry bytes, with what is on its output.
use Rattle.std.specs.Prelude.{◌≡◌, ℕ, Option}
use Rattle.irc_network.specs.declared.call_output.CallOutput.{CallOutput}
use Rattle.irc_forest.specs.declared.places.EndPlaces.{EndPlaces}
use Rattle.irc_network.specs.Network.{Progress}
use Rattle.irc_network.specs.Views.{receipts_of}
use Rattle.irc_world.specs.Stepping.{Item}
use Rattle.irc_network.specs.ByteNetwork.{ByteNetwork, bytes_come, item_given}
use Rattle.irc_network.specs.Turns.{ComesToLine, TurnsBy}

-- the network, and what clients have received by the call so far
abbrev pub progress_at : {Net : Type 0} → Net → CallOutput → Progress Net
progress_at net output = record { state = net; out = receipts_of output.lines.items }

-- an item was given, and nothing was in the output before
abbrev pub IsItemGiven : Item → ByteNetwork → ByteNetwork → CallOutput → Type 0
IsItemGiven item old new after = progress_at new after ≡ item_given item old

-- so many bytes came from the first of two servers to the other, or all that were on their way
-- where there were fewer
abbrev pub HaveCome : EndPlaces → ℕ → ByteNetwork → CallOutput → ByteNetwork → CallOutput → Type 0
HaveCome ends count old before new after =
    progress_at new after ≡ bytes_come ends.near ends.far count (progress_at old before)

-- a turn completed so many lines; none where no byte was on its way
abbrev pub IsTurn : Option ℕ → ByteNetwork → CallOutput → ByteNetwork → CallOutput → Type 0
IsTurn lines old before new after =
    TurnsBy lines (progress_at old before) (progress_at new after)

-- turn by turn bytes came until so many lines were complete; none where no byte is on its way any
-- more
abbrev pub HaveComeToLine : Option ℕ → ByteNetwork → CallOutput → ByteNetwork → CallOutput → Type 0
HaveComeToLine lines old before new after =
    ComesToLine lines (progress_at old before) (progress_at new after)
