-- What is due of a door, by what is due of its machine.
use Rattle.std.proofs.Common.{◌≡◌, ◌≢◌, ℕ, true, Option, None, Result, Ok, Err, IsErrAnd, List, []}
use Rattle.std.proofs.Common.{◌++◌}
use Rattle.std.proofs.Common.{length, refl, sym, ◌∙◌, ap, append-nil, subst}
use Rattle.irc_batch.specs.Batches.{Sent}
use Rattle.irc_server.specs.declared.event.ServerFault.{ServerFault}
use Rattle.irc_server.specs.declared.event.ServerFault.TheVariants.{Memory}
use Rattle.irc_engine.specs.Machines.{is_out_of_memory, due_by, never_due, Dues, IsDue}
use Rattle.irc_door.specs.declared.door.Door.{Door}
use Rattle.irc_door.specs.declared.manner.Manner.{Manner}
use Rattle.irc_door.specs.Capabilities.{Asked}
use Rattle.irc_door.specs.Doors.{dues_by, has_no_memory, said_by, says_due}
use Rattle.irc_door.proofs.Said.{said_nothing}

pub nothing_more : (manner : Manner) (asked : Option Asked) (before outs : List Sent) → outs ≡ []
    → before ≡ before ++ said_by manner asked outs
nothing_more manner asked before outs none =
    sym (ap (λ s. before ++ s) (said_nothing manner asked outs none) ∙ append-nil before)

module _ {M : Type 0} (old : Door M) (moment : ℕ) (before held : List Sent) (none : held ≡ [])
  where
    -- it is done, and said
    pub done : (dues : Dues M) (machine : M) (after outs : List Sent)
        → IsDue dues old.machine moment held (Ok tt) machine outs
        → after ≡ before ++ said_by old.manner None outs
        → IsDue (dues_by dues) old moment before (Ok tt) (record old { machine = machine }) after
    done never_due machine after outs so said = (
      refl,
      λ i. record old { machine = so.1 i },
      said ∙ sym (nothing_more old.manner None before outs (so.2 ∙ none)),
    )
    done (due_by is_due) machine after outs so said =
        says_due outs (subst (λ h. is_due old.machine moment h (Ok tt) machine outs) none so) refl
        said

    -- the machine has no memory
    pub failed : (dues : Dues M) (r : Result (Unit {0}) ServerFault) (machine : M) (new : Door M)
        (outs after : List Sent) (fault : ServerFault)
        → IsDue dues old.machine moment held (Err fault) machine outs
        → is_out_of_memory fault ≡ true → IsErrAnd r (λ f. f ≡ fault)
        → IsDue (dues_by dues) old moment before r new after
    failed dues (Ok _) machine new outs after fault so gone is = absurd is
    failed never_due (Err f) machine new outs after fault so gone is = cc so.0
    failed (due_by is_due) (Err f) machine new outs after fault so gone is =
        has_no_memory f (ap is_out_of_memory is ∙ gone)

    -- there is none for what it says
    pub unsaid : (dues : Dues M) (r : Result (Unit {0}) ServerFault) (machine : M) (new : Door M)
        (outs after : List Sent) → IsDue dues old.machine moment held (Ok tt) machine outs
        → length outs ≢ 0 → IsErrAnd r (λ f. f ≡ Memory)
        → IsDue (dues_by dues) old moment before r new after
    unsaid dues (Ok _) machine new outs after so some is = absurd is
    unsaid never_due (Err f) machine new outs after so some is =
        absurd (some (ap length (so.2 ∙ none)))
    unsaid (due_by is_due) (Err f) machine new outs after so some is =
        has_no_memory f (ap is_out_of_memory is)
