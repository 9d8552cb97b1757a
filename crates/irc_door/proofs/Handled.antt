-- What comes of an event that a door is asked for, by what comes of it for its machine.
use Rattle.std.proofs.Common.{◌≡◌, Result, Ok, Err, IsErrAnd, List, [], ◌++◌, refl}
use Rattle.std.proofs.Common.{sym, subst}
use Rattle.irc_batch.specs.Batches.{Sent}
use Rattle.irc_server.specs.declared.event.Event.{Event}
use Rattle.irc_server.specs.declared.event.ServerFault.{ServerFault}
use Rattle.irc_server.specs.declared.event.ServerFault.TheVariants.{Memory}
use Rattle.irc_engine.specs.Machines.{Handles}
use Rattle.irc_door.specs.declared.door.Door.{Door}
use Rattle.irc_door.specs.Capabilities.{asked_of}
use Rattle.irc_door.specs.Doors.{refuses, said_by, says, wants_memory, IsTurned}

module _ {M : Type 0} (handles : Handles M) (old new : Door M) (event : Event)
    (before held outs after : List Sent) where
  pub handled_said : held ≡ [] → handles old.machine event held (Ok tt) new.machine outs
      → new.manner ≡ old.manner → after ≡ before ++ said_by old.manner (asked_of
      old.manner.programs event) outs
      → IsTurned handles old event before (Ok tt) new after
  handled_said none done same said =
      says outs (subst (λ h. handles old.machine event h (Ok tt) new.machine outs) none done) same
      said

  pub handled_refused : (r : Result (Unit {0}) ServerFault) (fault : ServerFault) → held ≡ []
      → handles old.machine event held (Err fault) new.machine outs
      → IsErrAnd r (λ f. f ≡ fault) → new.manner ≡ old.manner → after ≡ before
      → IsTurned handles old event before r new after
  handled_refused (Ok _) fault none done failed same said = absurd failed
  handled_refused (Err f) fault none done failed same said =
      subst (λ e. IsTurned handles old event before (Err e) new after) (sym failed)
      (refuses fault outs
      (subst (λ h. handles old.machine event h (Err fault) new.machine outs) none done) same said)

  pub handled_unsaid : (r : Result (Unit {0}) ServerFault) → IsErrAnd r (λ f. f ≡ Memory)
      → IsTurned handles old event before r new after
  handled_unsaid (Ok _) failed = absurd failed
  handled_unsaid (Err f) failed =
      subst (λ e. IsTurned handles old event before (Err e) new after) (sym failed)
      (wants_memory Memory refl)
