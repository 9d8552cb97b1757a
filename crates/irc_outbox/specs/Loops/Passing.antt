-- Steps that are passed over, one after another.
use Rattle.std.specs.Prelude.{◌≡◌, ℕ, false, List, ◌++◌}
use Rattle.std.specs.List.{list_any}
use Rattle.irc_outbox.specs.declared.memory.MemoryWire.{MemoryWire}
use Rattle.irc_outbox.specs.declared.memory.WireStep.{WireStep}
use Rattle.irc_outbox.specs.Memory.{told_at, StillTold}
use Rattle.irc_outbox.specs.Steps.{is_served}
use Rattle.irc_outbox.specs.Serving.{left_of}

-- So far some of the steps were passed over, and no more has happened.
pub record HasPassed (old now : MemoryWire) : Type 0 where
  pub passed : List WireStep
  pub left : left_of old ≡ passed ++ left_of now
  pub none : list_any (is_served old.fars) passed ≡ false
  pub stands : (q : ℕ) → told_at now.fars q ≡ told_at old.fars q
  pub told : StillTold old.fars now.fars
  pub unread : now.was_read ≡ false
  pub same_steps : now.steps ≡ old.steps
  pub same_hand : now.hand ≡ old.hand
  pub same_pending : now.pending ≡ old.pending
