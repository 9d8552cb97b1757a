-- What comes of an event, by what comes of it for the machine.
use Rattle.std.proofs.Common.{◌≡◌, ℕ, Option, Result, Ok, Err, IfErr, IsErrAnd, List, ◌++◌, refl}
use Rattle.std.proofs.Common.{sym, ◌∙◌}
use Rattle.std.proofs.Common.{subst}
use Rattle.irc_batch.specs.Batches.{Sent}
use Rattle.irc_server.specs.declared.event.Event.{Event}
use Rattle.irc_server.specs.declared.event.ServerFault.{ServerFault}
use Rattle.irc_server.specs.declared.event.ServerFault.TheVariants.{Memory}
use Rattle.irc_stage.specs.View.{View}
use Rattle.irc_engine.specs.Machines.{Handles, IsRefusal}
use Rattle.irc_doorman.specs.declared.asks.Asks.{Asks}
use Rattle.irc_doorman.specs.declared.doorman.Doorman.{Doorman}
use Rattle.irc_doorman.specs.declared.guest.Fate.{Fate}
use Rattle.irc_doorman.specs.Doormen.{does_not, fate_at, given, guest_at, has_no_memory, passes}
use Rattle.irc_doorman.specs.Doormen.{refuses, told, wants_memory, Guests, IsAdmitted, IsPassed}
use Rattle.irc_doorman.specs.Doormen.{IsSameDoorman}
use Rattle.irc_doorman.proofs.Told.{refused_given}

module _ {M : Type 0} (handles : Handles M) (old new : Doorman M) (event : Event)
    (before after : List Sent) where
  pub passed_not : (r : Result (Unit {0}) ServerFault) (fault : ServerFault)
      → handles old.machine event before (Err fault) new.machine after
      → IsErrAnd r (λ f. f ≡ fault) → guest_at new.guests ≡ guest_at old.guests
      → IsSameDoorman old new → IsPassed handles old event before r new after
  passed_not (Ok _) fault done failed known same = absurd failed
  passed_not (Err f) fault done failed known same =
      subst (λ e. IsPassed handles old event before (Err e) new after) (sym failed)
      (refuses fault done known same)

  pub passed_unnoted : (r : Result (Unit {0}) ServerFault) → IsErrAnd r (λ f. f ≡ Memory)
      → IsPassed handles old event before r new after
  passed_unnoted (Ok _) failed = absurd failed
  passed_unnoted (Err f) failed =
      subst (λ e. IsPassed handles old event before (Err e) new after) (sym failed)
      (wants_memory Memory refl)

  module _ (server_of : M → Option View) where
    pub admitted_not : (r : Result (Unit {0}) ServerFault) (fate : Fate) (fault : ServerFault)
        → fate ≡ fate_at (server_of old.machine) (guest_at old.guests) event
        → IsPassed handles old (given fate event) before (Err fault) new after
        → IsErrAnd r (λ f. f ≡ fault) → IsAdmitted server_of handles old event before r new after
    admitted_not (Ok _) fate fault is passed failed = absurd failed
    admitted_not (Err f) fate fault is passed failed =
        subst (λ e. IsAdmitted server_of handles old event before (Err e) new after) (sym failed)
        (does_not fate fault is passed)

    pub admitted_untold : (r : Result (Unit {0}) ServerFault) → IsErrAnd r (λ f. f ≡ Memory)
        → IsAdmitted server_of handles old event before r new after
    admitted_untold (Ok _) failed = absurd failed
    admitted_untold (Err f) failed =
        subst (λ e. IsAdmitted server_of handles old event before (Err e) new after) (sym failed)
        (has_no_memory Memory refl)

pub refused_by : (r : Result (Unit {0}) ServerFault) (fate : Fate) (guests : Guests) (event : Event)
    (server : Option View) (fault : ServerFault) → fate ≡ fate_at server guests event
    → IsRefusal server (given fate event) fault → IsErrAnd r (λ f. f ≡ fault)
    → IfErr r (IsRefusal server event)
refused_by (Ok _) fate guests event server fault is owed failed = tt
refused_by (Err f) fate guests event server fault is owed failed =
    subst (λ e. IsRefusal server event e) (sym failed)
    (refused_given fate guests event server fault is owed)

-- nothing is asked otherwise behind an event
pub asks_kept : {M : Type 0} (handles : Handles M) (old new : Doorman M) (event : Event)
    (before after : List Sent) → IsPassed handles old event before (Ok tt) new after
    → new.asks ≡ old.asks
asks_kept handles old new event before after (passes done known same) = same.asks

pub told_by : (asks others : Asks) (fate : Fate) (conn other : ℕ) (between after : List Sent)
    → others ≡ asks → other ≡ conn → after ≡ between ++ told others fate other
    → after ≡ between ++ told asks fate conn
told_by asks others fate conn other between after asks_are conn_is is =
    is ∙ (λ i. between ++ told (asks_are i) fate (conn_is i))
