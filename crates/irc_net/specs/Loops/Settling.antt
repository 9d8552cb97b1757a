-- Bytes that come in turn, as the code counts the lines that they complete.
use Rattle.std.specs.Prelude.{◌≡◌, ℕ, min, true}
use Rattle.irc_network.specs.Network.{Progress, max_count}
use Rattle.irc_network.specs.declared.call_output.CallOutput.{CallOutput}
use Rattle.irc_network.specs.ByteNetwork.{ByteNetwork, is_byte_rest}
use Rattle.irc_network.specs.Calls.{progress_at}
use Rattle.irc_network.specs.Turns.{TurnsGo}

-- some lines were completed, and counted up to 2^64 - 1
pub record GoesCounted (counted : ℕ) (old new : Progress ByteNetwork) : Type 0 where
  pub count : ℕ
  pub goes : TurnsGo count old new
  pub counts : counted ≡ min count max_count

-- and nothing is on its way any more
pub record SettlesAt (counted : ℕ) (old new : Progress ByteNetwork) : Type 0 where
  pub turns : GoesCounted counted old new
  pub rest : is_byte_rest new.state ≡ true

-- a network came to rest, and what clients received until then is in the output
abbrev pub HasComeToRest : ℕ → ByteNetwork → CallOutput → ByteNetwork → CallOutput → Type 0
HasComeToRest counted old before new after =
    SettlesAt counted (progress_at old before) (progress_at new after)
