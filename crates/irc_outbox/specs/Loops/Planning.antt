-- The memory for steps is taken, one step after another.
use Rattle.std.specs.Prelude.{◌≡◌, ℕ, List}
use Rattle.std.specs.BTreeMap.{BTreeMap}
use Rattle.irc_outbox.specs.declared.memory.Far.{Far}
use Rattle.irc_outbox.specs.declared.memory.WireStep.{WireStep}
use Rattle.irc_outbox.specs.Ample.{ArePlanned}
use Rattle.irc_outbox.specs.Memory.{AllFresh}
use Rattle.irc_outbox.specs.Steps.{longest_of}

-- It is taken for these steps, the longest of them is known, and each connection is fresh.
pub record HasPlanned (steps : List WireStep) (longest : ℕ) (fars : BTreeMap ℕ Far) : Type 0 where
  pub fresh : AllFresh fars
  pub planned : ArePlanned steps fars
  pub longest_is : longest ≡ longest_of steps
