-- Steps are passed over, one after another, up to the one that is served.
use Rattle.std.proofs.Common.{◌≡◌, ℕ, ◌+◌, ◌<◌, ◌≤◌, suc, true, false, None, List, [], ◌∷◌, ◌++◌}
use Rattle.std.proofs.Common.{length, drop, get_or, refl, sym, ◌∙◌, ap, subst, append-nil}
use Rattle.std.proofs.Common.{drop-cons, add-one}
use Rattle.std.specs.List.{list_any}
use Rattle.std.proofs.lemmas.List.{append_assoc}
use Rattle.circular_buffer.specs.Buffer.{Buffer}
use Rattle.irc_outbox.specs.declared.memory.MemoryWire.{MemoryWire}
use Rattle.irc_outbox.specs.declared.memory.WireStep.{WireStep}
use Rattle.irc_outbox.specs.declared.wire.Ready.{Ready}
use Rattle.irc_outbox.specs.declared.wire.Ready.TheVariants as ready
use Rattle.irc_outbox.specs.Memory.{told_at, AllWiresTold, Changes}
use Rattle.irc_outbox.specs.Steps.{step_bytes, step_conn, giver_of, is_served, meets, step_report}
use Rattle.irc_outbox.specs.Serving.{left_of, ServesNext, serves_step, serves_none}
use Rattle.irc_outbox.specs.Loops.Passing.{HasPassed}
use Rattle.irc_outbox.proofs.MemoryLaws.{still_told, still_on}
use Rattle.irc_outbox.proofs.StepLaws.{meets_keeps, none_more, passed_over, served_alike, stood}

-- the step at a place stands before those behind it
pub step_at : (steps : List WireStep) (at : ℕ) (step : WireStep) → at < length steps
    → step ≡ get_or steps at step → drop at steps ≡ step ∷ drop (at + 1) steps
step_at steps at step within is =
    drop-cons steps at step within ∙ ap (λ s. s ∷ drop (suc at) steps) (sym is)
    ∙ ap (λ n. step ∷ drop n steps) (sym (add-one at))

pub none_passed : (wire now : MemoryWire) → left_of wire ≡ left_of now → now.fars ≡ wire.fars
    → now.steps ≡ wire.steps → now.hand ≡ wire.hand → now.pending ≡ wire.pending
    → now.was_read ≡ false → HasPassed wire now
none_passed wire now left fars steps hand pending unread = record {
  passed = [];
  left = left;
  none = refl;
  stands = λ q. ap (λ all. told_at all q) fars;
  told = λ calls all. subst (λ all_fars. AllWiresTold all_fars calls) (sym fars) all;
  unread = unread;
  same_steps = steps;
  same_hand = hand;
  same_pending = pending;
}

-- one more is passed over
pub passes_on : (old mid now : MemoryWire) (step : WireStep) → HasPassed old mid
    → left_of mid ≡ step ∷ left_of now → Changes (step_conn step) (meets step) mid.fars now.fars
    → is_served mid.fars step ≡ false → now.steps ≡ mid.steps → now.hand ≡ mid.hand
    → now.pending ≡ mid.pending → now.was_read ≡ mid.was_read → HasPassed old now
passes_on old mid now step so left changes unserved same_steps same_hand same_pending same_read =
    record {
      passed = so.passed ++ step ∷ [];
      left = so.left ∙ ap (λ xs. so.passed ++ xs) left
          ∙ sym (append_assoc so.passed (step ∷ []) (left_of now));
      none = none_more (is_served old.fars) so.passed step so.none
          (served_alike step old.fars mid.fars so.stands ∙ unserved);
      stands = λ q. passed_over step mid.fars now.fars changes unserved q ∙ so.stands q;
      told = still_on old.fars mid.fars now.fars so.told
          (still_told (step_conn step) (meets step) mid.fars now.fars (meets_keeps step) changes);
      unread = same_read ∙ so.unread;
      same_steps = same_steps ∙ so.same_steps;
      same_hand = same_hand ∙ so.same_hand;
      same_pending = same_pending ∙ so.same_pending;
    }

same_capacity : (old mid : MemoryWire) → HasPassed old mid
    → mid.pending.capacity ≡ old.pending.capacity
same_capacity old mid so = ap (λ (buffer : Buffer ℕ). buffer.capacity) so.same_pending

-- the next one is served
pub serves_this : (old mid new : MemoryWire) (step : WireStep) (report : Ready) → HasPassed old mid
    → left_of mid ≡ step ∷ left_of new → Changes (step_conn step) (meets step) mid.fars new.fars
    → is_served mid.fars step ≡ true → new.hand ≡ giver_of step
    → (length (step_bytes step) ≤ mid.pending.capacity → new.pending.items ≡ step_bytes step)
    → new.pending.capacity ≡ mid.pending.capacity → report ≡ step_report step
    → ServesNext old new report
serves_this old mid new step report so left changes served giver bytes same_room is =
    serves_step so.passed step (so.left ∙ ap (λ xs. so.passed ++ xs) left) so.none
    (served_alike step old.fars mid.fars so.stands ∙ served)
    (record {
      stands = stood step old.fars mid.fars new.fars so.stands changes served;
      giver = giver;
      bytes = λ fits. bytes
          (subst (λ (n : ℕ). length (step_bytes step) ≤ n) (sym (same_capacity old mid so)) fits);
      same_room = same_room ∙ same_capacity old mid so;
    })
    is

-- there is none to serve
pub serves_nobody : (old mid new : MemoryWire) (report : Ready) → HasPassed old mid
    → left_of mid ≡ [] → left_of new ≡ left_of mid → new.fars ≡ mid.fars → new.hand ≡ None
    → new.pending.capacity ≡ mid.pending.capacity → report ≡ ready.Idle → ServesNext old new report
serves_nobody old mid new report so none same_left same_fars giver same_room is =
    serves_none (ap (list_any (is_served old.fars)) (so.left ∙ ap (λ xs. so.passed ++ xs) none
    ∙ append-nil so.passed) ∙ so.none)
    (record {
      none_left = same_left ∙ none;
      stands = λ q. ap (λ fars. told_at fars q) same_fars ∙ so.stands q;
      giver = giver;
      same_room = same_room ∙ same_capacity old mid so;
    })
    is
