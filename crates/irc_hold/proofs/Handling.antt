-- What comes of an event that the machine is given, or is not, where it is refused or where there
-- is no memory.
use Rattle.std.proofs.Common.{◌≡◌, true, Option, Result, Ok, Err, IsErrAnd, List, sym, subst}
use Rattle.irc_batch.specs.Batches.{Sent}
use Rattle.irc_stage.specs.View.{View}
use Rattle.irc_server.specs.declared.event.Event.{Event}
use Rattle.irc_server.specs.declared.event.ServerFault.{ServerFault}
use Rattle.irc_server.specs.declared.event.ServerFault.TheVariants.{Memory}
use Rattle.irc_engine.specs.Machines.{Handles}
use Rattle.irc_hold.specs.declared.hold.Hold.{Hold}
use Rattle.irc_hold.specs.declared.line.Fate.{Fate}
use Rattle.irc_hold.specs.Holds.{has_no_room, held_at, lacks_memory, refuses, takes_memory}
use Rattle.irc_hold.specs.Holds.{IsGiven, IsKept}

module _ {M : Type 0} (server_of : M → Option View) (fate : Fate) (old new : Hold M)
    (event : Event) where
  pub given_refused : (handles : Handles M) (before after : List Sent)
      (r : Result (Unit {0}) ServerFault) (fault : ServerFault)
      → handles old.machine event before (Err fault) new.machine after
      → held_at new.helds ≡ held_at old.helds → new.negotiations ≡ old.negotiations
      → IsErrAnd r (λ f. f ≡ fault) → IsGiven server_of handles fate old event before r new after
  given_refused handles before after (Ok _) fault done helds same failed = absurd failed
  given_refused handles before after (Err f) fault done helds same failed =
      subst (λ e. IsGiven server_of handles fate old event before (Err e) new after) (sym failed)
      (refuses fault done helds same)

  pub given_lacking : (handles : Handles M) (before after : List Sent)
      (r : Result (Unit {0}) ServerFault) → takes_memory fate ≡ true
      → IsErrAnd r (λ f. f ≡ Memory) → IsGiven server_of handles fate old event before r new after
  given_lacking handles before after (Ok _) takes failed = absurd failed
  given_lacking handles before after (Err f) takes failed =
      subst (λ e. IsGiven server_of handles fate old event before (Err e) new after) (sym failed)
      (lacks_memory takes)

  pub kept_lacking : (r : Result (Unit {0}) ServerFault) → new.machine ≡ old.machine
      → takes_memory fate ≡ true → IsErrAnd r (λ f. f ≡ Memory)
      → IsKept server_of fate old event r new
  kept_lacking (Ok _) same takes failed = absurd failed
  kept_lacking (Err f) same takes failed =
      subst (λ e. IsKept server_of fate old event (Err e) new) (sym failed)
      (has_no_room same takes)
